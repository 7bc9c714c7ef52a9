-- What a text line gives, and the lines behind it.
-- Assumes nothing.
use Prim.Native.Nat.{ℕ, suc, ◌≤◌, ◌<◌}
use mathlib.Core.Path.{◌≡◌, refl, sym, ap, ◌∙◌}
use mathlib.Core.Bool.{Bool, true, false, cond}
use mathlib.Core.List.{List, [], ◌∷◌, ◌++◌, append_assoc}
use native.Mathlib.Omega.{arith}
use lib.Dec.{leb}
use lib.ListN.{length}
use borrow.Author.Tests.{le-leb, lt-leb, leb-true}
use Rattle.base_refusals.specs.Numbers.{Numbered as RefusalAsNumbered, address_overflow}
use Rattle.base_refusals.specs.Answer.{Answer, done, refused, map_done, and_then}
use Rattle.text_numbers.specs.declared.Numbering.{Numbering}
use Rattle.text_numbers.specs.declared.Numbering.TheVariants.{Numbered}
use Rattle.text_numbers.specs.Numbering.{ReadLine, blank_line, missing_number, number_too_high, numbered_text, read_line}
use Rattle.text_numbers.specs.NumberHelpers.{numbering, told}
use Rattle.base_ascii.specs.Search.{is_blank}
use Rattle.text_lines.proofs.Blanks.{blank_trimmed}
use Rattle.text_numbers.proofs.Numbers.{read_told, numbered_placed, read_space}
use Rattle.body_rules.specs.Lexicon.{Lexicon}
use Rattle.image_readers.specs.NumberedBody.{NumberedBody}
use Rattle.image_layout.specs.Layout.{end_address}
use Rattle.crunch_profile.specs.Profile.{allowed, least_behind}
use Rattle.crunch_rules.specs.Crunched.{lines_read, text_line, line_under, last_link, crunch_lines}
use Rattle.crunch_rules.specs.PassesHelpers.{address_behind, given}

pub link_fits : (address : ℕ) (ls : List NumberedBody) → end_address address ls ≤ 0xFFFF → last_link address ls ≡ done (end_address address ls)
unfolding last_link
link_fits address ls h = rw (last_link, le-leb _ _ h)

pub link_over : (address : ℕ) (ls : List NumberedBody) → 0xFFFF < end_address address ls → last_link address ls ≡ refused address_overflow
unfolding last_link
link_over address ls h = rw (last_link, lt-leb _ _ h)

-- ---- one line, its numbering known

module _ (words : Lexicon) (k : ℕ) (line : List ℕ) {m x : Numbering} (known : m ≡ x) (is : m ≡ numbering line) where
  pub read_as : lines_read words k (told line x) ≡ text_line words k line
  unfolding text_line
  read_as = ap (λ (y : Numbering). lines_read words k (told line y)) (sym known) ∙ ap (lines_read words k) (read_told line is)

-- ---- under the profile, if it is asked

module _ (profile : Bool) (words : Lexicon) (k least : ℕ) (line : List ℕ) where
  pub under_as : {a : Answer (List NumberedBody)} → a ≡ text_line words k line
      → and_then a (λ new. map_done (λ _. new) (cond profile (allowed k least new) (done tt))) ≡ line_under profile words k least line
  unfolding line_under
  under_as e = ap (λ (a : Answer (List NumberedBody)). and_then a (λ new. map_done (λ _. new) (cond profile (allowed k least new) (done tt)))) e

  -- what it allows is what the text line gives
  pub under_plain : {new : List NumberedBody} → line_under profile words k least line ≡ done new → text_line words k line ≡ done new
  unfolding line_under
  under_plain {new} e = go (text_line words k line) refl e
    where
      same : (ls : List NumberedBody) (b : Answer (Unit {0})) → map_done (λ _. ls) b ≡ done new → ls ≡ new
      same ls (done u) q = cc
      same ls (refused n) q = let z : ◌≡◌ {A = ℕ} 0 1 = cc in absurd (omega arith)

      go : (a : Answer (List NumberedBody)) → text_line words k line ≡ a
          → and_then a (λ ls. map_done (λ _. ls) (cond profile (allowed k least ls) (done tt))) ≡ done new → text_line words k line ≡ done new
      go (done ls) p q = p ∙ ap done (same ls (cond profile (allowed k least ls) (done tt)) q)
      go (refused n) p q = let z : ◌≡◌ {A = ℕ} 0 1 = cc in absurd (omega arith)

  -- without it nothing is asked
  pub plain_under : {new : List NumberedBody} → text_line words k line ≡ done new → line_under false words k least line ≡ done new
  unfolding line_under
  plain_under e = ap (λ (a : Answer (List NumberedBody)). and_then a (λ new. map_done (λ _. new) (cond false (allowed k least new) (done tt)))) e

pub body_up : (line : List ℕ) {m : Numbering} {number from to : ℕ} → m ≡ Numbered number from to → m ≡ numbering line → from ≤ to
body_up line t e = (numbered_placed line t e).up

pub body_within : (line : List ℕ) {m : Numbering} {number from to : ℕ} → m ≡ Numbered number from to → m ≡ numbering line → to ≤ length line
body_within line t e = (numbered_placed line t e).within

given_alike : (words : Lexicon) (k : ℕ) (r : ReadLine) → given (lines_read words k r) ≡ given (lines_read words 0 r)
given_alike words k blank_line = refl
given_alike words k missing_number = refl
given_alike words k (number_too_high v) = refl
given_alike words k (numbered_text n t) = refl

-- a line that is not refused gives these lines, whatever its place
pub given_is : (words : Lexicon) (line : List ℕ) (k : ℕ) {new : List NumberedBody} → text_line words k line ≡ done new → given (text_line words 0 line) ≡ new
unfolding text_line
given_is words line k e = sym (given_alike words k (read_line line)) ∙ ap given e

-- ---- a blank in front of a line changes nothing of what it gives

pub text_blank : (words : Lexicon) (k b : ℕ) (l : List ℕ) → is_blank b ≡ true → text_line words k (b ∷ l) ≡ text_line words k l
unfolding text_line
text_blank words k b l q = ap (lines_read words k) (read_space b l (blank_trimmed b q))

pub under_blank : (profile : Bool) (words : Lexicon) (k least b : ℕ) (l : List ℕ) → is_blank b ≡ true → line_under profile words k least (b ∷ l) ≡ line_under profile words k least l
unfolding line_under
under_blank profile words k least b l q = under_as profile words k least l (text_blank words k b l q)

-- ---- a line and the lines behind it

link_end : (address : ℕ) (ls : List NumberedBody) {next : ℕ} → last_link address ls ≡ done next → (next ≡ end_address address ls) × (next ≤ 0xFFFF)
unfolding last_link
link_end address ls {next} e = go (leb (end_address address ls) 0xFFFF) refl e
  where
    go : (b : Bool) → leb (end_address address ls) 0xFFFF ≡ b
        → ◌≡◌ {A = Answer ℕ} (elim b [ true ↦ done (end_address address ls) | false ↦ refused address_overflow ]) (done next) → (next ≡ end_address address ls) × (next ≤ 0xFFFF)
    go true p q = let s : next ≡ end_address address ls = cc in (s, omega (arith, leb-true (end_address address ls) 0xFFFF p))
    go false p q = let z : ◌≡◌ {A = ℕ} 0 1 = cc in absurd (omega arith)

-- the k-th text line is taken: the lines that it gives, and the address behind them
pub record Taken (profile : Bool) (words : Lexicon) (k least address : ℕ) (line : List ℕ) (next : ℕ) : Type 0 where
  pub new : List NumberedBody
  pub line_is : line_under profile words k least line ≡ done new
  pub link_is : last_link address new ≡ done next
  pub next_is : next ≡ end_address address new
  pub high : next ≤ 0xFFFF

pub taken : {profile : Bool} {words : Lexicon} {k least address : ℕ} {line : List ℕ} {next : ℕ} → address_behind profile words k least address line ≡ done next
    → Taken profile words k least address line next
unfolding address_behind
taken {profile} {words} {k} {least} {address} {line} {next} e = go (line_under profile words k least line) refl e
  where
    go : (a : Answer (List NumberedBody)) → line_under profile words k least line ≡ a → and_then a (last_link address) ≡ done next → Taken profile words k least address line next
    go (done new) p q =
        let l = link_end address new q in record { new = new; line_is = p; link_is = q; next_is = l.0; high = l.1 }
    go (refused n) p q = let z : ◌≡◌ {A = ℕ} 0 1 = cc in absurd (omega arith)

unfoldable pub taken_blank : {profile : Bool} {words : Lexicon} {k least address : ℕ} {line : List ℕ} → address ≤ 0xFFFF → line_under profile words k least line ≡ done []
    → Taken profile words k least address line address
unfolding end_address
taken_blank {address = address} h e = record { new = []; line_is = e; link_is = link_fits address [] h; next_is = refl; high = h }

-- what is taken under the profile is taken without it
unfoldable pub taken_plain : {profile : Bool} {words : Lexicon} {k least address : ℕ} {line : List ℕ} {next : ℕ} → Taken profile words k least address line next → Taken false words k least address line next
taken_plain {profile} {words} {k} {least} {address} {line} t =
    record {
      new = t.new;
      line_is = plain_under profile words k least line (under_plain profile words k least line t.line_is);
      link_is = t.link_is;
      next_is = t.next_is;
      high = t.high;
    }

module _ (profile : Bool) (words : Lexicon) (k least address : ℕ) (line : List ℕ) (lines : List (List ℕ)) where
  pub cons_taken : {next : ℕ} (t : Taken profile words k least address line next)
      → crunch_lines profile words k least address (line ∷ lines) ≡ map_done (λ ls. t.new ++ ls) (crunch_lines profile words (suc k) (least_behind least t.new) next lines)
  unfolding crunch_lines
  cons_taken {next} t =
      ap (λ (a : Answer (List NumberedBody)). and_then a (λ new. and_then (last_link address new) (λ n. map_done (λ ls. new ++ ls) (crunch_lines profile words (suc k) (least_behind least new) n lines)))) t.line_is
      ∙ ap (λ (a : Answer ℕ). and_then a (λ n. map_done (λ ls. t.new ++ ls) (crunch_lines profile words (suc k) (least_behind least t.new) n lines))) t.link_is

  pub cons_refused : {n : RefusalAsNumbered} → address_behind profile words k least address line ≡ refused n → crunch_lines profile words k least address (line ∷ lines) ≡ refused n
  unfolding crunch_lines address_behind
  cons_refused {n} e = go (line_under profile words k least line) e
    where
      then_rest : (new : List NumberedBody) (b : Answer ℕ) → b ≡ refused n → and_then b (λ x. map_done (λ ls. new ++ ls) (crunch_lines profile words (suc k) (least_behind least new) x lines)) ≡ refused n
      then_rest new (done x) q = let z : ◌≡◌ {A = ℕ} 0 1 = cc in absurd (omega arith)
      then_rest new (refused m) q = ap refused (same q)
        where
          same : ◌≡◌ {A = Answer ℕ} (refused m) (refused n) → m ≡ n
          same p = cc

      go : (a : Answer (List NumberedBody)) → and_then a (last_link address) ≡ refused n
          → and_then a (λ new. and_then (last_link address new) (λ x. map_done (λ ls. new ++ ls) (crunch_lines profile words (suc k) (least_behind least new) x lines))) ≡ refused n
      go (done new) q = then_rest new (last_link address new) q
      go (refused m) q = let s : m ≡ n = cc in ap refused s

-- the lines before a text line, and what it gives, are the lines before the next
pub before_new : (before new : List NumberedBody) (a : Answer (List NumberedBody))
    → map_done (λ ls. (before ++ new) ++ ls) a ≡ map_done (λ ls. before ++ ls) (map_done (λ ls. new ++ ls) a)
before_new before new (done ls) = ap done (append_assoc before new ls)
before_new before new (refused n) = refl

-- the lines that the profile accepts are those of plain crunching
pub lines_plain : (profile : Bool) (words : Lexicon) (lines : List (List ℕ)) (k least address : ℕ) {ls : List NumberedBody}
    → crunch_lines profile words k least address lines ≡ done ls → crunch_lines false words k least address lines ≡ done ls
unfolding crunch_lines taken_plain
lines_plain profile words [] k least address e = e
lines_plain profile words (line ∷ lines) k least address {ls} e = go (address_behind profile words k least address line) refl (λ more next rest q. lines_plain profile words lines (suc k) more next q)
  where
    go : (a : Answer ℕ) → address_behind profile words k least address line ≡ a
        → ((more next : ℕ) (rest : List NumberedBody) → crunch_lines profile words (suc k) more next lines ≡ done rest → crunch_lines false words (suc k) more next lines ≡ done rest)
        → crunch_lines false words k least address (line ∷ lines) ≡ done ls
    go (done next) p more =
        let t : Taken profile words k least address line next = taken p in
        cons_taken false words k least address line lines (taken_plain t)
        ∙ same (crunch_lines profile words (suc k) (least_behind least t.new) next lines) (crunch_lines false words (suc k) (least_behind least t.new) next lines) t.new
        (more (least_behind least t.new) next)
        (sym (cons_taken profile words k least address line lines t) ∙ e)
      where
        same : (a : Answer (List NumberedBody)) (b : Answer (List NumberedBody)) (new : List NumberedBody) → ((rest : List NumberedBody) → a ≡ done rest → b ≡ done rest)
            → map_done (λ xs. new ++ xs) a ≡ done ls → map_done (λ xs. new ++ xs) b ≡ done ls
        same (done rest) b new f q = ap (map_done (λ xs. new ++ xs)) (f rest refl) ∙ q
        same (refused n) b new f q = let z : ◌≡◌ {A = ℕ} 0 1 = cc in absurd (omega arith)
    go (refused n) p more = let c : refused n ≡ done ls = sym (cons_refused profile words k least address line lines p) ∙ e in let z : ◌≡◌ {A = ℕ} 0 1 = cc in absurd (omega arith)
