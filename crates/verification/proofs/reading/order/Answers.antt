use Rattle.verification.proofs.AnswersSpelled.{order_spelled}
use Rattle.verification.proofs.reading.order.Goals as goal

pub returns : goal.returns
returns c a most later sizes spelled =
    let h = order_spelled a c.args.count most later c.args.rest.now sizes spelled in
    let read = c.in_ok-order.ensures h.0 later h.1 h.2 in
    (h.3 c.in_ok-order.order read.0, read.1)
