use Rattle.std.proofs.Common.{arith, sym, subst}
use Rattle.recorder.specs.Written.{IsFitting}
use Rattle.recorder.proofs.Somes.{always, if_ok}
use Rattle.recorder.proofs.values.event_members.Goals as goal

pub returns-in-L-clause-fits : goal.returns-in-L-clause-fits
returns-in-L-clause-fits c =
    if_ok c.read_members.result (λ short. subst IsFitting (sym c.in-L.is) (omega arith, omega arith, short))
    c.read_members.ensures.fits

pub returns-in_ok-members-in-S-2-clause-fits : goal.returns-in_ok-members-in-S-2-clause-fits
returns-in_ok-members-in-S-2-clause-fits c =
    always _ (subst IsFitting (sym c.in-S.is) (omega arith, omega arith))

pub returns-in_ok-members-in-R-clause-fits : goal.returns-in_ok-members-in-R-clause-fits
returns-in_ok-members-in-R-clause-fits c =
    always _ (subst IsFitting (sym c.in-R.is)
    (omega arith, omega arith, c.in_ok-members-in-R.ensures.fits, omega arith))

pub returns-in-C-clause-fits : goal.returns-in-C-clause-fits
returns-in-C-clause-fits c =
    if_ok c.read_members-in-C.result (λ short. subst IsFitting (sym c.in-C.is) (omega arith, omega arith, short))
    c.read_members-in-C.ensures.fits

pub returns-in-F-clause-fits : goal.returns-in-F-clause-fits
returns-in-F-clause-fits c = always _ (subst IsFitting (sym c.in-F.is) tt)
