-- A word split at its last mark.
-- Assumes nothing.
use Prim.Native.Nat.{ℕ, ◌+◌, ◌-◌, ◌<◌}
use mathlib.Core.Path.{◌≡◌, sym, ap, ◌∙◌}
use mathlib.Core.List.{List, [], ◌∷◌}
use native.Mathlib.Omega.{arith}
use lib.ListN.{length, take, drop}
use lib.Seq.{length-take-le}
use Rattle.base_ascii.specs.Search.{equals, last}
use Rattle.base_ascii.proofs.Searching.{last_within, tail}
use Rattle.word_search.specs.Spelling.{bytes_of}
use Rattle.say_put.specs.Clipped.{Clipped}
use Rattle.say_put.proofs.Clipping.{clip_as, clip_both}
use Rattle.say_names.specs.Names.{behind_last, before_last, plain_name, listing_name}
use Rattle.std.specs.Prelude.{Option, Some, None}

pub part_behind : (word : List ℕ) (n : ℕ) → take (length word - (n + 1)) (drop (n + 1) word) ≡ drop (n + 1) word
part_behind word n = tail word (n + 1)

module _ (mark : ℕ) (word : List ℕ) {f : (Option ℕ)} where
  pub mark_within : {n : ℕ} → f ≡ Some n → f ≡ last (equals mark) word → n < length word
  mark_within e l = last_within (equals mark) word (sym l ∙ e)

  pub mark_taken : {n : ℕ} → f ≡ Some n → f ≡ last (equals mark) word → n ≡ length (take n word)
  mark_taken {n} e l = let h : n < length word = mark_within e l in sym (length-take-le n word (omega arith))

  pub split_behind : {n : ℕ} {r : List ℕ} → r ≡ drop (n + 1) word → f ≡ Some n → f ≡ last (equals mark) word → r ≡ behind_last mark word
  unfolding behind_last
  split_behind g e l = g ∙ sym (rw (behind_last, sym l ∙ e))

  pub behind_none : f ≡ None → f ≡ last (equals mark) word → word ≡ behind_last mark word
  unfolding behind_last
  behind_none e l = sym (rw (behind_last, sym l ∙ e))

  pub split_before : {n : ℕ} → f ≡ Some n → f ≡ last (equals mark) word → take n word ≡ before_last mark word
  unfolding before_last
  split_before e l = sym (rw (before_last, sym l ∙ e))

  pub before_none : f ≡ None → f ≡ last (equals mark) word → word ≡ before_last mark word
  unfolding before_last
  before_none e l = sym (rw (before_last, sym l ∙ e))

pub plain_named : (file : List ℕ) {r base : List ℕ} → r ≡ before_last 0x2E base → base ≡ behind_last 0x2F file → r ≡ plain_name file
unfolding plain_name
plain_named file e b = e ∙ ap (λ (w : List ℕ). before_last 0x2E w) b

pub listing_named : (folder file : List ℕ) {buffer o1 o2 o3 o4 n : List ℕ} {m1 m2 m3 m4 : ℕ} → Clipped buffer 0 folder m1 o1 → Clipped o1 m1 (0x2F ∷ []) m2 o2
    → n ≡ plain_name file → Clipped o2 m2 n m3 o3 → Clipped o3 m3 (bytes_of ".txt") m4 o4 → Clipped buffer 0 (listing_name folder file) m4 o4
unfolding listing_name
listing_named folder file a b e c d = clip_both folder _ a (clip_both (0x2F ∷ []) _ b (clip_both (plain_name file) (bytes_of ".txt") (clip_as e c) d))
