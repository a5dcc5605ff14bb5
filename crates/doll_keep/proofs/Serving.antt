-- Laws of loads one after another in none of which a keeper fails.
use Rattle.std.proofs.Common.{◌≡◌, ℕ, suc, ◌+◌, false, refl, arith}
use Rattle.doll_keep.specs.Calls.{Load, Telling, Serves}

-- no load
pub serves_none : {K : Type 0} (Called : Telling K) (keeper : K) → Serves Called 0 keeper keeper
unfolding Serves
serves_none Called keeper = refl

-- one load more
pub serves_more : {K : Type 0} (Called : Telling K) (loads : ℕ) (before last after : K) → Serves Called loads before last → Called last (Load loads) false after → Serves Called (loads + 1) before after
unfolding Serves
serves_more Called loads before last after served called =
    let next : loads + 1 ≡ suc loads = omega arith in
    rw next (last, served, called)
