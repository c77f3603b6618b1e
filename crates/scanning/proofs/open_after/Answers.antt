use Rattle.std.proofs.Common.{◌≡◌, rules}
use Rattle.scanning.specs.Modes.{open_after}
use Rattle.scanning.proofs.ModesToPieces.{law, only}
use Rattle.scanning.proofs.open_after.Goals as goal

pub returns : goal.returns
returns c =
    let value : c.in_comment.result ≡ open_after c.args.in_comment c.args.line.now = search rules in
    record { value = value; scanned = law c.args.in_comment c.args.line.now c.in_comment.result value; only = λ b k. only c.in_comment.result value k }
