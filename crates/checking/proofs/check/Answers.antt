use Rattle.std.proofs.Common.{IsSome, refl, subst, inl, inr}
use Rattle.std.proofs.lemmas.Result.{IfOk-weaker}
use Rattle.checking.proofs.check.Goals as goal

pub returns-in_ok-print-in-Ok : goal.returns-in_ok-print-in-Ok
returns-in_ok-print-in-Ok g c = inl (c.in-Ok.judgement, c.in-Ok.ensures.judged, refl)

pub returns-in-Err : goal.returns-in-Err
returns-in-Err g c =
    let f = c.in-Err.fault in
    IfOk-weaker c.refuse.result _ _ (λ code e. inr (f, c.in-Err.ensures.refused, subst IsSome c.refusal.ensures e.0, e.1)) c.refuse.ensures
