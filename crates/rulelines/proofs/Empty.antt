-- Whether something is left.
use Rattle.std.proofs.Common.{◌≡◌, ℕ, zero, suc, ◌<◌, false, eqb, arith}

pub not_empty : (n : ℕ) → false ≡ eqb n 0 → 0 < n
not_empty zero e = cc
not_empty (suc n) e = omega arith
