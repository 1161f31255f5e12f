use Rattle.std.proofs.Common.{refl, subst, sym}
use Rattle.std.proofs.lemmas.Bool.{false≢true}
use Rattle.headers.specs.declared.header.Header.{Header}
use Rattle.ledger.specs.declared.text_kind.Kind.{Kind}
use Rattle.ledger.specs.Merges.{IsNoText, IsTextRead}
use Rattle.ledger.specs.Sections.{kind_of}
use Rattle.ledger.specs.Texts.{BeginsWithLedger}
use Rattle.ledger.proofs.SectionTexts.{fits_told, none_read, text_begins}
use Rattle.ledger.proofs.sections.counts_under.Goals as goal

pub returns-in-Err-clause-err : goal.returns-in-Err-clause-err
returns-in-Err-clause-err c =
    none_read c.in-Err.error c.args.rest.now c.args.header.now
    (subst (λ (k : Kind). IsNoText k c.args.rest.now c.in-Err.error) c.kind_of.ensures c.in-Err.ensures.err)

pub returns-then-not-fits-clause-err : goal.returns-then-not-fits-clause-err
returns-then-not-fits-clause-err c t more s same begins =
    let r = subst (λ (k : Kind). IsTextRead k c.args.rest.now c.read.new.rest c.in-Ok.ledger) c.kind_of.ensures
    c.in-Ok.ensures.ok in
    let told = (r.only s.codes more
    (subst (λ (x : Header). BeginsWithLedger (kind_of x.counted) s.codes c.args.rest.now more) same
    (text_begins (kind_of t.header.counted) t.text more c.args.rest.now s.codes s.text begins))).1 in
    false≢true (c.if-not-fits.ensures.1
    (fits_told c.args.header.now t s c.in-Ok.ledger.total (sym same) told.total))

pub returns-clause-ok : goal.returns-clause-ok
returns-clause-ok c = (
  c.in-Ok.ledger,
  subst (λ (k : Kind). IsTextRead k c.args.rest.now c.read.new.rest c.in-Ok.ledger) c.kind_of.ensures
      c.in-Ok.ensures.ok,
  c.if-not-fits.ensures.0 refl,
  refl,
)
