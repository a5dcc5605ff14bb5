-- The name of a foreign key, compared part by part.
use Rattle.std.proofs.Common.{◌≡◌, ℕ, ◌-◌, ◌≤◌, Bool, true, false, not, List, ◌++◌, length, take, drop, ◌&&◌, arith, ap, sym, ◌∙◌, length-append, length-drop, take_all, codes}
use Rattle.std.specs.Prelude.{bytes_eq}
use Rattle.std.proofs.lemmas.Bool.Decides.{same_from_decides, Decides-like, Decides-and}
use Rattle.std.proofs.lemmas.Slice.Eq.{bytes_eq-Decides}
use Rattle.std.proofs.lemmas.List.{take-append-drop}
use Rattle.std.proofs.Math.Seq.{take-append_seam, drop-append_seam}
use Rattle.doll_schema.specs.Lookups.{key_name}

-- a text ends in another where it is what stands before and that
pub suffix_apart : (a k n : List ℕ) → length k ≤ length n → bytes_eq (a ++ k) n ≡ (bytes_eq (take (length n - length k) n) a && bytes_eq (drop (length n - length k) n) k)
suffix_apart a k n h =
    same_from_decides _ _ (bytes_eq-Decides (a ++ k) n)
    (Decides-like (bytes_eq (take (length n - length k) n) a && bytes_eq (drop (length n - length k) n) k) joins parts
    (Decides-and (bytes_eq (take (length n - length k) n) a) (bytes_eq (drop (length n - length k) n) k) (bytes_eq-Decides (take (length n - length k) n) a) (bytes_eq-Decides (drop (length n - length k) n) k)))
  where
    joins : (take (length n - length k) n ≡ a) × (drop (length n - length k) n ≡ k) → a ++ k ≡ n
    joins p = rw (p.0, p.1) at (take-append-drop (length n - length k) n)

    parts : a ++ k ≡ n → (take (length n - length k) n ≡ a) × (drop (length n - length k) n ≡ k)
    parts e =
        let size : length n - length k ≡ length a = omega (arith, ap length (sym e), length-append a k) in
        rw (size, sym e) (take-append_seam a k, drop-append_seam a k)

-- the same of a foreign key's name, as its two parts are compared
pub key_apart : (a n b : List ℕ) (r t : Bool) → 3 ≤ length n → t ≡ not (bytes_eq (take (length n - 3) n) a) → t ≡ false → r ≡ bytes_eq (take (length n - (length n - 3)) (drop (length n - 3) n)) b → b ≡ codes "_id" → r ≡ bytes_eq (key_name a) n
key_apart a n b r t h front same back end =
    let whole : take (length n - (length n - 3)) (drop (length n - 3) n) ≡ drop (length n - 3) n = take_all (length n - (length n - 3)) (drop (length n - 3) n) (omega (arith, length-drop (length n - 3) n)) in
    let apart = suffix_apart a (codes "_id") n h in
    let is : bytes_eq (take (length n - 3) n) a ≡ true = from_not (sym front ∙ same) in
    back ∙ rw (whole, end) (sym (rw is at apart))
  where
    from_not : {b : Bool} → not b ≡ false → b ≡ true
    from_not {b} e = grind arith
