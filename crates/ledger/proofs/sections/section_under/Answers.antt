use Rattle.std.proofs.Common.{◌≡◌, ◌∙◌, ◌-◌, ◌++◌, ℕ, List, Option, ap, arith, length, refl, subst, sym, take}
use Rattle.headers.specs.declared.header.Header.{Header}
use Rattle.ledger.specs.declared.ledger.Ledger.{Ledger}
use Rattle.ledger.specs.Merges.{IsTextRead}
use Rattle.ledger.specs.Sections.{IsSection, kind_of}
use Rattle.ledger.specs.Texts.{text_of}
use Rattle.ledger.proofs.SectionTexts.{section_of, text_cut}
use Rattle.ledger.proofs.sections.section_under.Goals as goal

-- what is cut off is the text that was read
cut : (h : Header) (l : Ledger) (start before after : List ℕ) (counts left : ℕ) → start ≡ before
    → counts ≡ length before → left ≡ length after → (r : IsTextRead (kind_of h.counted) before after l)
    → take (counts - left) start ≡ text_of (kind_of h.counted) (r.begins).ledger
cut h l start before after counts left same all rest r =
    let size : counts - left ≡ length before - length after = omega (arith, all, rest) in
    ap (λ (x : List ℕ). take (counts - left) x) same
    ∙ text_cut (text_of (kind_of h.counted) (r.begins).ledger) after before (counts - left) (r.begins).text size

pub returns-in-Ok-clause-ok : goal.returns-in-Ok-clause-ok
returns-in-Ok-clause-ok c =
    let f = c.in-Ok.ensures.ok in
    let own = cut c.args.header f.0 c.rest-text.result.now c.args.rest.now c.counts_under.new.rest
    c.bytes_left-counts.result c.bytes_left.result c.rest-text.ensures c.bytes_left-counts.ensures c.bytes_left.ensures f.1 in
    (refl, (f.1.begins).text ∙ ap (λ (l : List ℕ). l ++ c.counts_under.new.rest) (sym own))

pub invariant_of-result : goal.invariant_of-result
invariant_of-result c =
    let f = c.in-Ok.ensures.ok in
    let own = cut c.args.header f.0 c.rest-text.result.now c.args.rest.now c.counts_under.new.rest
    c.bytes_left-counts.result c.bytes_left.result c.rest-text.ensures c.bytes_left-counts.ensures c.bytes_left.ensures f.1 in
    let text : List ℕ = take (c.bytes_left-counts.result - c.bytes_left.result) c.rest-text.result.now in
    subst (λ (v : Option ℕ). IsSection (record { header = c.args.header; text = text; violation = v })) (sym f.3)
    (section_of (kind_of c.args.header.counted) c.args.header text c.args.rest.now c.counts_under.new.rest f.0 refl
    c.requires f.1 own f.2)
