use Rattle.evaluation.proofs.Machine.{works_runs}
use Rattle.evaluation.proofs.Values.{worked_made}
use Rattle.evaluation.proofs.Evaluator.work_out.Goals as goal

pub returns-clause-runs : goal.returns-clause-runs
returns-clause-runs g c e q =
    let s = g.S.Store in
    let k = c.args.self.now.known in
    let w = c.work_out.ensures.works e q in
    works_runs s.model s.rollback s.need (g.E.Entries.lookup c.args.self.now.entries) k.none k.top w.0 e c.args.store.now c.work_out.result c.work_out.new.state w.1

pub returns-clause-means : goal.returns-clause-means
returns-clause-means g c e q zn tp =
    let s = g.S.Store in
    let k = c.args.self.now.known in
    worked_made s.model s.rollback s.need (g.E.Entries.lookup c.args.self.now.entries) k.none k.top e c.args.store.now c.work_out.new.state c.work_out.result zn tp (returns-clause-runs g c e q)
