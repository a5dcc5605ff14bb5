-- MD5 gives digests.
use Rattle.std.proofs.Common.{◌<◌, ℕ, zero, suc, List, [], ◌∷◌, ◌++◌, arith}
use Rattle.std.specs.Prelude.{slice_index}
use Rattle.std.specs.Int.{to_le_bytes, w32}
use Rattle.std.specs.List.{AllByRecursion}
use Rattle.md5.specs.Md5.{digest_bytes, md5}
use Rattle.md5.proofs.StandardFacts.{length-md5}
use Rattle.doll_sound.specs.Names.{Md5GivesDigests}

abbrev AreBytes : List ℕ → Type 0
AreBytes = AllByRecursion (λ b. b < 256)

both : (xs ys : List ℕ) → AreBytes xs → AreBytes ys → AreBytes (xs ++ ys)
both [] ys first more = more
both (x ∷ xs) ys first more = (first.0, both xs ys first.1 more)

word_bytes : (n : ℕ) → AreBytes (to_le_bytes w32 n)
word_bytes n = (omega arith, (omega arith, (omega arith, (omega arith, tt))))

digest_is : (h : List ℕ) (n : ℕ) → AreBytes (digest_bytes h n)
unfolding digest_bytes
digest_is h zero = tt
digest_is h (suc n) = both (digest_bytes h n) (to_le_bytes w32 (slice_index h n)) (digest_is h n) (word_bytes (slice_index h n))

each : (xs : List ℕ) → AreBytes xs → (i : ℕ) → slice_index xs i < 256
each [] all i = omega arith
each (x ∷ xs) all zero = all.0
each (x ∷ xs) all (suc i) = each xs all.1 i

bytes_md5 : (text : List ℕ) → AreBytes (md5 text)
unfolding md5
bytes_md5 text = digest_is _ 4

pub md5_gives_digests : Md5GivesDigests
md5_gives_digests text = (length-md5 text, each (md5 text) (bytes_md5 text))
