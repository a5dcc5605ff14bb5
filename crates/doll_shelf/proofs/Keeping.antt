-- Entries by their keys, and the list of them.
use Prim.Native.Nat.compare
use lib.Dec.{is_le}
use Rattle.std.proofs.lemmas.Bool.{lt-ltb}
use Rattle.std.proofs.Common.{◌≡◌, ◌<◌, ◌≤◌, ℕ, ◌+◌, suc, zero, Option, Bool, true, false, cond, not, ◌||◌, nat_lt, get_or, append_assoc, List, [], ◌∷◌, ◌++◌, map, length, take, drop, position, slice_get, None, Some, unwrap_or, if◌then◌else◌, refl, sym, ap, subst, ◌∙◌, arith}
use Rattle.std.specs.List.{position_or_len, prefix_len, remove, slice_set}
use Rattle.std.specs.Map.{keys_of, lookup, lookup_entry, remove_entry, set_value}
use Rattle.std.specs.Option.{option_map, option_map_or}
use Rattle.std.specs.Str.{bytes_eq}
use Rattle.std.proofs.lemmas.List.{append-nil, drop_more, length-map}
use Rattle.std.proofs.lemmas.Map.{keys-set_value}
use Rattle.std.proofs.lemmas.Map.Entries.{length-keys_of}
use Rattle.std.proofs.Math.ListN.{drop_of_length-le}
use Rattle.std.proofs.lemmas.List.Sums.{sum_by-cons, sum_by-remove, sum_by-set}
use Rattle.std.proofs.lemmas.Option.{get_or_from_slice_get, slice_get-map, slice_get_within}
use Rattle.std.proofs.lemmas.Slice.Eq.{bytes_eq-Decides}
use Rattle.doll_entry.specs.declared.entry.Entry.{Entry}
use Rattle.doll_entry.specs.Judging.{counted_time, judged_by}
use Rattle.doll_shelf.specs.declared.kept.Kept.{Kept}
use Rattle.doll_shelf.specs.Entries.{place_of, put, size_of, total_size}
use Rattle.doll_entry.specs.declared.asks.Fetched.TheVariants.{Hit, Miss}
use Rattle.doll_entry.specs.declared.asks.Ask.{Ask}
use Rattle.doll_entry.specs.declared.asks.Fetched.{Fetched}
use Rattle.doll_entry.specs.declared.judging.Judged.{Judged}
use Rattle.doll_entry.specs.declared.asks.Miss.TheVariants as miss
use Rattle.doll_shelf.specs.Fetches.{Fetches, HitsOrTells, IsHit, ReadsAll, any_failed, fetched, fetched_at, fetched_by, fetched_from, is_failed}
use Rattle.doll_shelf.specs.Queue.{kept_until}
use Rattle.doll_shelf.specs.Shares.{Shares}
use Rattle.doll_shelf.specs.Kept.{entries_of, entry_kept}

-- ---- places

module _ {A B : Type 0} (f : A → B) (test : B → Bool) where
  front_seen : (xs : List A) → position_or_len test (map f xs) ≡ position_or_len (λ x. test (f x)) xs
  front_seen [] = refl
  front_seen (x ∷ xs) = ap (λ n. cond (not (test (f x))) (1 + n) 0) (front_seen xs)

  pub position_seen : (xs : List A) → position test (map f xs) ≡ position (λ x. test (f x)) xs
  position_seen xs = λ i. cond (nat_lt (front_seen xs i) (length-map xs f i)) (Some (front_seen xs i)) None

-- the place of a key among entries is its place among the keys
pub place_kept : (key : List ℕ) (kept : List (List ℕ × Kept)) → place_of key (entries_of kept) ≡ position (bytes_eq key) (keys_of kept)
place_kept key kept =
    position_seen entry_kept (λ entry. bytes_eq key entry.fresh.key) kept ∙ sym (position_seen (λ p. p.0) (bytes_eq key) kept)

-- what is answered where a key was found
pub fetched_found : (key versions : List ℕ) (now ttl : ℕ) (kept : List (List ℕ × Kept)) (place : ℕ) (stored : List ℕ) (at : Kept)
    → position (bytes_eq key) (keys_of kept) ≡ Some place → slice_get kept place ≡ Some (stored, at)
    → fetched key versions now ttl (entries_of kept)
    ≡ fetched_by (judged_by at.versions at.expires_at versions (counted_time now) ttl) (counted_time now + ttl) place (entry_kept (stored, at)) (entries_of kept)
fetched_found key versions now ttl kept place stored at found stands =
    let entries = entries_of kept in
    let there : place_of key entries ≡ Some place = place_kept key kept ∙ found in
    let entry : slice_get entries place ≡ Some (entry_kept (stored, at)) = slice_get-map entry_kept kept place ∙ ap (option_map entry_kept) stands in
    ap (λ o. fetched_from o versions now ttl entries) there ∙ ap (λ o. fetched_at o place versions now ttl entries) entry

-- and where it wasn't
pub fetched_absent : (key versions : List ℕ) (now ttl : ℕ) (kept : List (List ℕ × Kept)) → position (bytes_eq key) (keys_of kept) ≡ None
    → fetched key versions now ttl (entries_of kept) ≡ (Miss miss.Absent, entries_of kept)
fetched_absent key versions now ttl kept gone = ap (λ o. fetched_from o versions now ttl (entries_of kept)) (place_kept key kept ∙ gone)

-- ---- changes

-- an entry less, by its place
entries_without : (kept : List (List ℕ × Kept)) (place : ℕ) → entries_of (remove kept place) ≡ remove (entries_of kept) place
entries_without [] zero = refl
entries_without [] (suc place) = refl
entries_without (first ∷ more) zero = refl
entries_without (first ∷ more) (suc place) = ap (λ entries. entry_kept first ∷ entries) (entries_without more place)

-- an entry in place of the one under its key
pub put_present : (kept : List (List ℕ × Kept)) (key : List ℕ) (new at : Kept) → lookup (bytes_eq key) kept ≡ Some at
    → entries_of (set_value (bytes_eq key) kept new) ≡ put (entry_kept (key, new)) (entries_of kept)
put_present [] key new at one = absurd (cc one)
put_present (first ∷ more) key new at one = by (bytes_eq key first.0) refl one (put_present more key new at)
  where
    by : (b : Bool) → bytes_eq key first.0 ≡ b → cond b (Some first.1) (lookup (bytes_eq key) more) ≡ Some at
        → (lookup (bytes_eq key) more ≡ Some at → entries_of (set_value (bytes_eq key) more new) ≡ put (entry_kept (key, new)) (entries_of more))
        → entries_of (cond b ((first.0, new) ∷ more) (first ∷ set_value (bytes_eq key) more new))
        ≡ (if b then entry_kept (key, new) ∷ entries_of more else entry_kept first ∷ put (entry_kept (key, new)) (entries_of more))
    by true e one rest = ap (λ stored. entry_kept (stored, new) ∷ entries_of more) (sym ((bytes_eq-Decides key first.0).0 e))
    by false e one rest = ap (λ entries. entry_kept first ∷ entries) (rest one)

-- an entry more
pub put_absent : (kept : List (List ℕ × Kept)) (key : List ℕ) (new : Kept) → lookup (bytes_eq key) kept ≡ None
    → entries_of (kept ++ (key, new) ∷ []) ≡ put (entry_kept (key, new)) (entries_of kept)
put_absent [] key new none = refl
put_absent (first ∷ more) key new none = by (bytes_eq key first.0) none (put_absent more key new)
  where
    by : (b : Bool) → cond b (Some first.1) (lookup (bytes_eq key) more) ≡ None
        → (lookup (bytes_eq key) more ≡ None → entries_of (more ++ (key, new) ∷ []) ≡ put (entry_kept (key, new)) (entries_of more))
        → entries_of ((first ∷ more) ++ (key, new) ∷ [])
        ≡ (if b then entry_kept (key, new) ∷ entries_of more else entry_kept first ∷ put (entry_kept (key, new)) (entries_of more))
    by true none rest = absurd (cc none)
    by false none rest = ap (λ entries. entry_kept first ∷ entries) (rest none)

-- ---- where a key stands

-- the place of a key, by what stands there
pub record Place (key : List ℕ) (kept : List (List ℕ × Kept)) (stored : List ℕ) (at : Kept) : Type 0 where
  pub place : ℕ
  pub found : position (bytes_eq key) (keys_of kept) ≡ Some place
  pub stands : slice_get kept place ≡ Some (stored, at)
  pub removed : remove_entry (bytes_eq key) kept ≡ remove kept place
  pub set : (w : Kept) → entries_of (set_value (bytes_eq key) kept w) ≡ slice_set (entries_of kept) place (entry_kept (stored, w))
  pub same : key ≡ stored

later_within : (p n : ℕ) → nat_lt (suc p) (suc n) ≡ nat_lt p n
later_within p n = ap is_le (compare.suc-suc (suc p) n)

next_place : (p n place : ℕ) → cond (nat_lt p n) (Some p) None ≡ Some place → cond (nat_lt (1 + p) (suc n)) (Some (1 + p)) None ≡ Some (suc place)
next_place p n place e =
    let one : 1 + p ≡ suc p = omega arith in
    ap (λ m. cond (nat_lt m (suc n)) (Some m) None) one ∙ ap (λ b. cond b (Some (suc p)) None) (later_within p n) ∙ by (nat_lt p n) e
  where
    by : (b : Bool) → cond b (Some p) None ≡ Some place → cond b (Some (suc p)) None ≡ Some (suc place)
    by true e = ap (λ o. Some (suc (unwrap_or o p))) e
    by false e = absurd (cc e)

further : (key : List ℕ) (first : List ℕ × Kept) (more : List (List ℕ × Kept)) (stored : List ℕ) (at : Kept) → bytes_eq key first.0 ≡ false → Place key more stored at
    → Place key (first ∷ more) stored at
further key first more stored at fails rest =
    let p = position_or_len (bytes_eq key) (keys_of more) in
    record {
      place = suc rest.place;
      found = ap (λ b. cond (nat_lt (cond (not b) (1 + p) 0) (suc (length (keys_of more)))) (Some (cond (not b) (1 + p) 0)) None) fails
          ∙ next_place p (length (keys_of more)) rest.place rest.found;
      stands = rest.stands;
      removed = ap (λ b. cond b more (first ∷ remove_entry (bytes_eq key) more)) fails ∙ ap (λ l. first ∷ l) rest.removed;
      set = λ w. ap (λ b. entries_of (cond b ((first.0, w) ∷ more) (first ∷ set_value (bytes_eq key) more w))) fails ∙ ap (λ l. entry_kept first ∷ l) (rest.set w);
      same = rest.same;
    }

pub place_at : (key : List ℕ) (kept : List (List ℕ × Kept)) (stored : List ℕ) (at : Kept) → lookup_entry (bytes_eq key) kept ≡ Some (stored, at) → Place key kept stored at
place_at key [] stored at one = absurd (cc one)
place_at key (first ∷ more) stored at one = by (bytes_eq key first.0) refl one (place_at key more stored at)
  where
    by : (b : Bool) → bytes_eq key first.0 ≡ b → cond b (Some first) (lookup_entry (bytes_eq key) more) ≡ Some (stored, at)
        → (lookup_entry (bytes_eq key) more ≡ Some (stored, at) → Place key more stored at) → Place key (first ∷ more) stored at
    by true passes one rest =
        let is : first ≡ (stored, at) = ap (λ o. unwrap_or o first) one in
        let p = position_or_len (bytes_eq key) (keys_of more) in
        record {
          place = 0;
          found = ap (λ b. cond (nat_lt (cond (not b) (1 + p) 0) (suc (length (keys_of more)))) (Some (cond (not b) (1 + p) 0)) None) passes
              ∙ ap (λ b. cond b (Some 0) None) (lt-ltb 0 (suc (length (keys_of more))) (omega arith));
          stands = one;
          removed = ap (λ b. cond b more (first ∷ remove_entry (bytes_eq key) more)) passes;
          set = λ w. ap (λ b. entries_of (cond b ((first.0, w) ∷ more) (first ∷ set_value (bytes_eq key) more w))) passes
              ∙ ap (λ e. entry_kept (e.0, w) ∷ entries_of more) is;
          same = (bytes_eq-Decides key first.0).0 passes ∙ ap (λ e. e.0) is;
        }
    by false fails one rest = further key first more stored at fails (rest one)

-- an entry less
pub entries_removed : (key : List ℕ) (kept : List (List ℕ × Kept)) (stored : List ℕ) (at : Kept) → (known : Place key kept stored at)
    → entries_of (remove_entry (bytes_eq key) kept) ≡ remove (entries_of kept) known.place
entries_removed key kept stored at known = ap entries_of known.removed ∙ entries_without kept known.place

-- the pair of a value that is found
pub entry_of_value : (key : List ℕ) (kept : List (List ℕ × Kept)) (at : Kept) → lookup (bytes_eq key) kept ≡ Some at
    → (stored : List ℕ) × (lookup_entry (bytes_eq key) kept ≡ Some (stored, at))
entry_of_value key [] at one = absurd (cc one)
entry_of_value key (first ∷ more) at one = by (bytes_eq key first.0) one (entry_of_value key more at)
  where
    by : (b : Bool) → cond b (Some first.1) (lookup (bytes_eq key) more) ≡ Some at
        → (lookup (bytes_eq key) more ≡ Some at → (stored : List ℕ) × (lookup_entry (bytes_eq key) more ≡ Some (stored, at)))
        → (stored : List ℕ) × (cond b (Some first) (lookup_entry (bytes_eq key) more) ≡ Some (stored, at))
    by true one rest = (first.0, ap (λ o. Some (first.0, unwrap_or o at)) one)
    by false one rest = rest one

pub place_of_value : (key : List ℕ) (kept : List (List ℕ × Kept)) (at : Kept) → lookup (bytes_eq key) kept ≡ Some at → (stored : List ℕ) × Place key kept stored at
place_of_value key kept at one = let entry = entry_of_value key kept at one in (entry.0, place_at key kept entry.0 at entry.1)

-- a key that isn't there has no place
pub no_place : (key : List ℕ) (kept : List (List ℕ × Kept)) → lookup (bytes_eq key) kept ≡ None → position (bytes_eq key) (keys_of kept) ≡ None
no_place key [] none = refl
no_place key (first ∷ more) none = by (bytes_eq key first.0) none (no_place key more)
  where
    p : ℕ
    p = position_or_len (bytes_eq key) (keys_of more)

    next : (q n : ℕ) → cond (nat_lt q n) (Some q) None ≡ None → cond (nat_lt (1 + q) (suc n)) (Some (1 + q)) None ≡ None
    next q n e =
        let one : 1 + q ≡ suc q = omega arith in
        ap (λ m. cond (nat_lt m (suc n)) (Some m) None) one ∙ ap (λ b. cond b (Some (suc q)) None) (later_within q n) ∙ over (nat_lt q n) e
      where
        over : (b : Bool) → cond b (Some q) None ≡ None → cond b (Some (suc q)) None ≡ None
        over true e = absurd (cc e)
        over false e = refl

    by : (b : Bool) → cond b (Some first.1) (lookup (bytes_eq key) more) ≡ None → (lookup (bytes_eq key) more ≡ None → position (bytes_eq key) (keys_of more) ≡ None)
        → cond (nat_lt (cond (not b) (1 + p) 0) (suc (length (keys_of more)))) (Some (cond (not b) (1 + p) 0)) None ≡ None
    by true none rest = absurd (cc none)
    by false none rest = next p (length (keys_of more)) (rest none)

-- nor is it removed
pub not_removed : (key : List ℕ) (kept : List (List ℕ × Kept)) → lookup_entry (bytes_eq key) kept ≡ None
    → (remove_entry (bytes_eq key) kept ≡ kept) × (lookup (bytes_eq key) kept ≡ None)
not_removed key [] none = (refl, refl)
not_removed key (first ∷ more) none = by (bytes_eq key first.0) none (not_removed key more)
  where
    by : (b : Bool) → cond b (Some first) (lookup_entry (bytes_eq key) more) ≡ None
        → (lookup_entry (bytes_eq key) more ≡ None → (remove_entry (bytes_eq key) more ≡ more) × (lookup (bytes_eq key) more ≡ None))
        → (cond b more (first ∷ remove_entry (bytes_eq key) more) ≡ first ∷ more) × (cond b (Some first.1) (lookup (bytes_eq key) more) ≡ None)
    by true none rest = absurd (cc none)
    by false none rest = (ap (λ l. first ∷ l) (rest none).0, (rest none).1)

-- ---- sizes

-- the size with one entry more
pub size_more : (kept : List (List ℕ × Kept)) (key : List ℕ) (new : Kept)
    → total_size (entries_of (kept ++ (key, new) ∷ [])) ≡ total_size (entries_of kept) + size_of (entry_kept (key, new))
size_more [] key new = omega (arith, sum_by-cons size_of (entry_kept (key, new)) [])
size_more (first ∷ more) key new =
    omega (
      arith,
      size_more more key new,
      sum_by-cons size_of (entry_kept first) (entries_of more),
      sum_by-cons size_of (entry_kept first) (entries_of (more ++ (key, new) ∷ [])),
    )

-- at most one entry more
pub length_put : (entry : Entry) (entries : List Entry) → length (put entry entries) ≤ length entries + 1
length_put entry [] = omega arith
length_put entry (first ∷ more) = by (bytes_eq entry.fresh.key first.fresh.key) (length_put entry more)
  where
    by : (b : Bool) → length (put entry more) ≤ length more + 1 → length (if b then entry ∷ more else first ∷ put entry more) ≤ length (first ∷ more) + 1
    by true rest = omega arith
    by false rest = omega (arith, rest)

-- ---- those at the front that pass a test

-- whether the first passes
abbrev pub first_passes : {A : Type 0} → (A → Bool) → List A → Bool
first_passes test xs = option_map_or test (slice_get xs 0) false

-- where it doesn't, none at the front do
pub none_pass : {A : Type 0} (test : A → Bool) (xs : List A) (most : ℕ) → first_passes test xs ≡ false → prefix_len test (take most xs) ≡ 0
none_pass test xs zero fails = refl
none_pass test [] (suc most) fails = refl
none_pass test (x ∷ xs) (suc most) fails = ap (λ b. cond b (1 + prefix_len test (take most xs)) 0) fails

-- where it does, it counts
pub one_passes : {A : Type 0} (test : A → Bool) (xs : List A) (most : ℕ) → first_passes test xs ≡ true
    → prefix_len test (take (suc most) xs) ≡ 1 + prefix_len test (take most (drop 1 xs))
one_passes test [] most passes = absurd (cc passes)
one_passes test (x ∷ xs) most passes = ap (λ b. cond b (1 + prefix_len test (take most xs)) 0) passes

-- ---- answers

module _ (key versions : List ℕ) (now ttl : ℕ) (kept : List (List ℕ × Kept)) (old : List Entry) (view : entries_of kept ≡ old) where
  pub answered_absent : None ≡ lookup (bytes_eq key) kept → fetched key versions now ttl old ≡ (Miss miss.Absent, old)
  answered_absent gone = subst (λ entries. fetched key versions now ttl entries ≡ (Miss miss.Absent, entries)) view (fetched_absent key versions now ttl kept (no_place key kept (sym gone)))

  pub answered_found : (place : ℕ) (stored : List ℕ) (at : Kept) → Some place ≡ position (bytes_eq key) (keys_of kept) → slice_get kept place ≡ Some (stored, at)
      → (becomes : Judged) → becomes ≡ judged_by at.versions at.expires_at versions (counted_time now) ttl
      → fetched key versions now ttl old ≡ fetched_by becomes (counted_time now + ttl) place (entry_kept (stored, at)) old
  answered_found place stored at found stands becomes is =
      let plain = fetched_found key versions now ttl kept place stored at (sym found) stands in
      subst (λ entries. fetched key versions now ttl entries ≡ fetched_by becomes (counted_time now + ttl) place (entry_kept (stored, at)) entries) view
      (plain ∙ ap (λ j. fetched_by j (counted_time now + ttl) place (entry_kept (stored, at)) (entries_of kept)) (sym is))

pub shared_fetches : (value : List ℕ) (expected : Fetched × List Entry) (found : Fetched) (old : List Entry) → expected ≡ (Hit value, old) → Shares value found → Fetches expected found old old
shared_fetches value expected (Hit given) old e same = (ap Hit same ∙ sym (ap (λ p. p.0) e), sym (ap (λ p. p.1) e))
shared_fetches value expected (Miss miss.Memory) old e same = refl
shared_fetches value expected (Miss miss.Absent) old e same = absurd same
shared_fetches value expected (Miss miss.Mismatch) old e same = absurd same
shared_fetches value expected (Miss miss.Bumped) old e same = absurd same
shared_fetches value expected (Miss miss.Dead) old e same = absurd same
shared_fetches value expected (Miss miss.Failed) old e same = absurd same

pub shared_tells : (value : List ℕ) (expected : Fetched × List Entry) (found : Fetched) (old : List Entry) → expected ≡ (Hit value, old) → Shares value found → HitsOrTells expected.0 found
shared_tells value expected (Hit given) old e same = tt
shared_tells value expected (Miss miss.Memory) old e same = subst (λ p. IsHit p.0) (sym e) tt
shared_tells value expected (Miss miss.Absent) old e same = absurd same
shared_tells value expected (Miss miss.Mismatch) old e same = absurd same
shared_tells value expected (Miss miss.Bumped) old e same = absurd same
shared_tells value expected (Miss miss.Dead) old e same = absurd same
shared_tells value expected (Miss miss.Failed) old e same = absurd same

-- ---- an expiry that is moved, an entry that goes

module _ (key : List ℕ) (kept : List (List ℕ × Kept)) (stored : List ℕ) (at : Kept) (known : Place key kept stored at) where
  entry_there : slice_get (entries_of kept) known.place ≡ Some (entry_kept (stored, at))
  entry_there = slice_get-map entry_kept kept known.place ∙ ap (option_map entry_kept) known.stands

  -- one size comes, and that of what is put away goes
  pub resized : (new : Kept) → total_size (entries_of (set_value (bytes_eq key) kept new)) + size_of (entry_kept (stored, at)) ≡ total_size (entries_of kept) + size_of (entry_kept (stored, new))
  resized new =
      let entry = entry_kept (stored, at) in
      let within = slice_get_within (entries_of kept) known.place entry entry_there in
      let was = get_or_from_slice_get (entries_of kept) known.place entry entry entry_there in
      let sizes = sum_by-set size_of (entries_of kept) known.place (entry_kept (stored, new)) entry within in
      omega (arith, sizes, ap size_of was, ap total_size (known.set new))

  -- an entry that goes
  pub less : total_size (entries_of (remove_entry (bytes_eq key) kept)) + size_of (entry_kept (stored, at)) ≡ total_size (entries_of kept)
  less =
      let entry = entry_kept (stored, at) in
      let within = slice_get_within (entries_of kept) known.place entry entry_there in
      let was = get_or_from_slice_get (entries_of kept) known.place entry entry entry_there in
      let sizes = sum_by-remove size_of (entries_of kept) known.place entry within in
      omega (arith, sizes, ap size_of was, ap total_size (entries_removed key kept stored at known))

-- a value that is set leaves as many
pub set_length : (key : List ℕ) (kept : List (List ℕ × Kept)) (new : Kept) → length (entries_of (set_value (bytes_eq key) kept new)) ≡ length (entries_of kept)
set_length key kept new =
    length-map (set_value (bytes_eq key) kept new) entry_kept
    ∙ sym (length-keys_of (set_value (bytes_eq key) kept new))
    ∙ ap length (keys-set_value (bytes_eq key) kept new)
    ∙ length-keys_of kept
    ∙ sym (length-map kept entry_kept)

-- the list after an expiry was moved where a value was found
pub set_kept : (key : List ℕ) (kept : List (List ℕ × Kept)) (at : Kept) (expiry : ℕ) (new : List (List ℕ × Kept))
    → new ≡ option_map_or (λ a. set_value (bytes_eq key) kept (kept_until expiry a)) (lookup (bytes_eq key) kept) kept
    → lookup (bytes_eq key) kept ≡ Some at → new ≡ set_value (bytes_eq key) kept (kept_until expiry at)
set_kept key kept at expiry new is one = is ∙ ap (λ o. option_map_or (λ a. set_value (bytes_eq key) kept (kept_until expiry a)) o kept) one

-- the place of a key in the list of entries
pub place_seen : (key : List ℕ) (kept : List (List ℕ × Kept)) (entries : List Entry) → entries_of kept ≡ entries
    → place_of key entries ≡ position (bytes_eq key) (keys_of kept)
place_seen key kept entries view = ap (place_of key) (sym view) ∙ place_kept key kept

-- the entry under a key, by its size
pub record Under (key : List ℕ) (kept : List (List ℕ × Kept)) (size : ℕ) : Type 0 where
  pub stored : List ℕ
  pub at : Kept
  pub one : lookup (bytes_eq key) kept ≡ Some at
  pub known : Place key kept stored at
  pub sized : size ≡ size_of (entry_kept (stored, at))

pub under : (key : List ℕ) (kept : List (List ℕ × Kept)) (size : ℕ) → Some size ≡ option_map (λ at. size_of (entry_kept (key, at))) (lookup (bytes_eq key) kept)
    → Under key kept size
under key kept size is = by (lookup (bytes_eq key) kept) refl is
  where
    by : (o : Option Kept) → lookup (bytes_eq key) kept ≡ o → Some size ≡ option_map (λ at. size_of (entry_kept (key, at))) o → Under key kept size
    by None found is = absurd (cc is)
    by (Some at) found is =
        let known = place_of_value key kept at found in
        record {
          stored = known.0;
          at = at;
          one = found;
          known = known.1;
          sized = ap (λ o. unwrap_or o size) is ∙ ap (λ k. size_of (entry_kept (k, at))) known.1.same;
        }

-- and where there is none
pub none_under : (key : List ℕ) (kept : List (List ℕ × Kept)) → None ≡ option_map (λ at. size_of (entry_kept (key, at))) (lookup (bytes_eq key) kept)
    → lookup (bytes_eq key) kept ≡ None
none_under key kept is = by (lookup (bytes_eq key) kept) is
  where
    by : (o : Option Kept) → None ≡ option_map (λ at. size_of (entry_kept (key, at))) o → o ≡ None
    by None is = refl
    by (Some at) is = absurd (cc is)

-- ---- several answers

pub not_failed : (expected found : Fetched) → HitsOrTells expected found → is_failed found ≡ false
not_failed expected (Hit value) tells = refl
not_failed expected (Miss miss.Memory) tells = refl
not_failed expected (Miss miss.Absent) tells = refl
not_failed expected (Miss miss.Mismatch) tells = refl
not_failed expected (Miss miss.Bumped) tells = refl
not_failed expected (Miss miss.Dead) tells = refl
not_failed expected (Miss miss.Failed) tells = absurd tells

pub none_failed : (found : List Fetched) (one : Fetched) → any_failed found ≡ false → is_failed one ≡ false → any_failed (found ++ one ∷ []) ≡ false
none_failed [] one all here = ap (λ b. b || false) here
none_failed (first ∷ more) one all here = by (is_failed first) all (none_failed more one)
  where
    by : (b : Bool) → (b || any_failed more) ≡ false → (any_failed more ≡ false → is_failed one ≡ false → any_failed (more ++ one ∷ []) ≡ false)
        → (b || any_failed (more ++ one ∷ [])) ≡ false
    by true e rest = absurd (cc e)
    by false e rest = rest e here

-- one answer more
pub one_more : (asks : List Ask) (at : ℕ) (ask : Ask) (now : ℕ) (made : List Fetched) (old current : List Entry)
    → at < length asks → ask ≡ get_or asks at ask
    → ((more : List Fetched) (final : List Entry) → ReadsAll (drop at asks) now more current final → ReadsAll asks now (made ++ more) old final)
    → (found : Fetched) (next : List Entry) → Fetches (fetched ask.key ask.versions now 0 current) found current next
    → (more : List Fetched) (final : List Entry) → ReadsAll (drop (at + 1) asks) now more next final → ReadsAll asks now ((made ++ found ∷ []) ++ more) old final
one_more asks at ask now made old current within is sofar found next fetches more final rest =
    let left : drop at asks ≡ ask ∷ drop (at + 1) asks = drop_more asks at ask within ∙ ap (λ one. one ∷ drop (at + 1) asks) (sym is) in
    let all = sofar (found ∷ more) final (subst (λ asks. ReadsAll asks now (found ∷ more) current final) (sym left) (next, fetches, rest)) in
    subst (λ answers. ReadsAll asks now answers old final) (sym (append_assoc made (found ∷ []) more)) all

-- and none
pub all_made : (asks : List Ask) (at now : ℕ) (made : List Fetched) (old current : List Entry) → length asks ≤ at
    → ((more : List Fetched) (final : List Entry) → ReadsAll (drop at asks) now more current final → ReadsAll asks now (made ++ more) old final)
    → ReadsAll asks now made old current
all_made asks at now made old current done sofar =
    let nothing : drop at asks ≡ [] = drop_of_length-le asks done in
    subst (λ answers. ReadsAll asks now answers old current) (append-nil made)
    (sofar [] current (subst (λ left. ReadsAll left now [] current current) (sym nothing) refl))

-- ---- keys

pub keys_seen : (kept : List (List ℕ × Kept)) → map (λ entry. entry.fresh.key) (entries_of kept) ≡ keys_of kept
keys_seen [] = refl
keys_seen (first ∷ more) = ap (λ keys. first.0 ∷ keys) (keys_seen more)
