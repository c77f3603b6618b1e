use Rattle.std.proofs.Common.{rules}
use Rattle.layers.proofs.Kept.{kept_after, released_attempts, released_refused}
use Rattle.layers.proofs.preparation.prepare.Goals as goal

pub returns-in-Ok : goal.returns-in-Ok
returns-in-Ok g c =
    let s = g.S.Store in
    let h = kept_after s.rollback_laws s.need s.consistent c.top-all.ensures c.in-Ok.ensures c.keep.ensures in
    record { attempts = h.0; prepares = h.1 }

pub returns-in-Err : goal.returns-in-Err
returns-in-Err g c =
    let s = g.S.Store in
    record {
      attempts = released_attempts s.rollback_laws s.need s.consistent c.top-all.ensures c.in-Err.ensures c.mark-mark.ensures (search rules);
      prepares = released_refused s.rollback_laws s.need s.consistent c.top-all.ensures c.in-Err.ensures c.mark-mark.ensures (search rules);
    }
