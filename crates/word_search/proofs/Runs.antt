-- Lists one behind the other as one run, and the place at which each begins: each of them stands at its place. So a run of bytes that is
-- made of words spells them.
-- Assumes nothing.
use Prim.Native.Nat.{ℕ, zero, suc, ◌+◌, ◌-◌, ◌≤◌, ◌<◌}
use mathlib.Core.Path.{◌≡◌, refl, ap, ◌∙◌}
use mathlib.Core.List.{List, [], ◌∷◌, ◌++◌}
use native.Mathlib.Nat.{le_of_suc-le-suc}
use native.Mathlib.Omega.{arith}
use lib.ListN.{length, get_or, take, drop, length-append, length-drop, get_or-append}
use lib.Seq.{take-append_seam, take-append-le, drop-append-le, drop-append-add}
use Rattle.word_search.specs.RunHelpers.{Lies, joined, starts, word_of}

module _ {A : Type 0} where
  pub length_starts : (k : ℕ) (ls : List (List A)) → length (starts k ls) ≡ length ls + 1
  unfolding starts
  length_starts k [] = refl
  length_starts k (l ∷ ls) = let e : length (starts (k + length l) ls) ≡ length ls + 1 = length_starts (k + length l) ls in omega arith

  -- list j stands at its place
  pub record Part (k : ℕ) (ls : List (List A)) (j : ℕ) : Type 0 where
    pub low : k ≤ get_or (starts k ls) j 0
    pub next : get_or (starts k ls) (suc j) 0 ≡ get_or (starts k ls) j 0 + length (get_or ls j [])
    pub high : get_or (starts k ls) (suc j) 0 ≤ k + length (joined ls)
    pub here : take (length (get_or ls j [])) (drop (get_or (starts k ls) j 0 - k) (joined ls)) ≡ get_or ls j []

  first_start : (k : ℕ) (ls : List (List A)) → get_or (starts k ls) 0 0 ≡ k
  unfolding starts
  first_start k [] = refl
  first_start k (l ∷ ls) = refl

  pub part : (k : ℕ) (ls : List (List A)) (j : ℕ) → j < length ls → Part k ls j
  unfolding starts joined
  part k [] j h = absurd (omega arith)
  part k (l ∷ ls) zero h =
      let e : k - k ≡ 0 = omega arith in
      let f = first_start (k + length l) ls in
      record {
        low = omega arith;
        next = f;
        high = omega (arith, f, length-append l (joined ls));
        here = rw e (take-append_seam l (joined ls));
      }
  part k (l ∷ ls) (suc j) h =
      let p = part (k + length l) ls j (le_of_suc-le-suc h) in
      let e : get_or (starts (k + length l) ls) j 0 - k ≡ length l + (get_or (starts (k + length l) ls) j 0 - (k + length l)) = omega (arith, p.low) in
      record {
        low = omega (arith, p.low);
        next = p.next;
        high = omega (arith, p.high, length-append l (joined ls));
        here = rw (e, drop-append-add l (joined ls) (get_or (starts (k + length l) ls) j 0 - (k + length l))) p.here;
      }

  -- the same where more stands behind the run and behind the places
  module _ (ls : List (List A)) (more : List A) (rest : List ℕ) (j : ℕ) (h : j < length ls) where
    abbrev from : ℕ
    from = get_or (starts 0 ls ++ rest) j 0

    abbrev to : ℕ
    to = get_or (starts 0 ls ++ rest) (j + 1) 0

    from_is : from ≡ get_or (starts 0 ls) j 0
    from_is = get_or-append (starts 0 ls) rest 0 j (omega (arith, length_starts 0 ls))

    to_is : to ≡ get_or (starts 0 ls) (suc j) 0
    to_is =
        let e : j + 1 ≡ suc j = omega arith in
        get_or-append (starts 0 ls) rest 0 (j + 1) (omega (arith, length_starts 0 ls)) ∙ ap (λ (n : ℕ). get_or (starts 0 ls) n 0) e

    pub part_up : from ≤ to
    part_up = omega (arith, from_is, to_is, (part 0 ls j h).next)

    pub part_end : to ≤ length (joined ls)
    part_end = omega (arith, to_is, (part 0 ls j h).high)

    pub part_is : take (to - from) (drop from (joined ls ++ more)) ≡ get_or ls j []
    part_is =
        let p = part 0 ls j h in
        let n : to - from ≡ length (get_or ls j []) = omega (arith, from_is, to_is, p.next) in
        let f : from ≡ get_or (starts 0 ls) j 0 - 0 = omega (arith, from_is) in
        rw (
          drop-append-le from (joined ls) more (omega (arith, part_up, part_end)),
          take-append-le (to - from) (drop from (joined ls)) more (omega (arith, part_up, part_end, length-drop from (joined ls))),
          n,
          f,
        ) p.here

-- a run of words spells them
module _ (ws : List (List ℕ)) (more rest : List ℕ) (k : ℕ) (h : k < length ws) where
  pub run_lies : Lies (joined ws ++ more) (starts 0 ws ++ rest) k
  run_lies = record {
    here = omega (arith, length-append (starts 0 ws) rest, length_starts 0 ws);
    up = part_up ws more rest k h;
    within = omega (arith, part_end ws more rest k h, length-append (joined ws) more);
  }

  pub run_word : word_of (joined ws ++ more) (starts 0 ws ++ rest) k ≡ get_or ws k []
  unfolding word_of
  run_word = part_is ws more rest k h
