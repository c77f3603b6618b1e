use Rattle.std.proofs.Common.{◌<◌, length, arith}
use Rattle.stores.proofs.Models.{release_restores}
use Rattle.standing.proofs.Asked.{stands}
use Rattle.standing.proofs.standing.Goals as goal

pub returns : goal.returns
returns g c =
    let s = g.S.Store in
    let entry = c.args.store.now in
    let ok = s.consistent entry in
    let top = c.top-top.result in
    let t = c.top-top.ensures in
    let below : top < length (s.model entry).held = omega (arith, t.0, ok.floor) in
    let j = c.judge-answer.ensures in
    record {
      same = release_restores s.rollback_laws c.mark-mark.result.at ok j.advanced c.mark-mark.ensures c.release.ensures;
      stands = stands s.model s.rollback s.need top c.args.i entry ok below t.1 c.judge-answer.new.store c.judge-answer.result j.runs;
      asked = (top, t.0, t.1, (c.judge-answer.new.store, j.runs));
    }
