-- The whole report: from what was marked, counted and written to the definition.
-- Assumes nothing.
use Prim.Native.Nat.{ℕ, ◌+◌, ◌*◌, ◌/◌, ◌≤◌, ◌<◌}
use mathlib.Core.Path.{◌≡◌, sym, ap, ◌∙◌, subst}
use mathlib.Core.Bool.{Bool, ◌&&◌}
use mathlib.Core.List.{List, [], map, append-nil}
use native.Mathlib.Omega.{arith}
use lib.ListN.{length, replicate}
use borrow.Author.Tests.{lt-ltb}
use Rattle.base_refusals.specs.Numbers.{Numbered, too_many_lines, no_room}
use Rattle.base_refusals.specs.Answer.{done, refused, map_done, numbered, answered}
use Rattle.base_refusals.specs.declared.Refusal.{Refusal}
use Rattle.base_lent.specs.Lent.{Lent, into_buffer}
use Rattle.base_lent.specs.Stores.{Room, Put, HasRoom}
use Rattle.base_lent.proofs.Outcomes.{into_refused, into_none, into_done}
use Rattle.image_readers.specs.IndexLines.{index_line, has_line}
use Rattle.image_readers.specs.Lined.{Lined, lined_from}
use Rattle.image_readers.specs.Lines.{overview}
use Rattle.image_readers.specs.Links.{link_step}
use Rattle.image_readers.proofs.ByLinks.{link_sound}
use Rattle.image_readers.proofs.Lined.{accepted}
use Rattle.image_marks.specs.Marks.{line_marks, has_mark}
use Rattle.image_marks.proofs.Numbers.{numbers_marked}
use Rattle.base_bits.specs.Bits.{pack_from, packed}
use Rattle.base_bits.specs.PenHelpers.{Ready, drawn}
use Rattle.base_bits.specs.declared.Pen.{Pen}
use Rattle.base_bits.proofs.Bytes.{pack_length}
use Rattle.base_bits.proofs.Pens.{ready_behind, put_behind}
use Rattle.base_refusals.specs.declared.Refusal.TheVariants.{TargetTooHigh}
use Rattle.std.specs.Prelude.{Result, Ok, Err}
use Rattle.image_readers.specs.declared.Overview.{Overview}
use Rattle.image_index.specs.Index.{LineIndex, indexed, jump_fields, without_line, jump_report}
use Rattle.image_index.specs.IndexHelpers.{found_from, low_targets, AtMost, CountedIs, jump_bits, Faultless, NumbersMarked}
use Rattle.image_index.proofs.Putting.{jumps_are}
use Rattle.image_index.proofs.Whole.{too_many, too_high, indexed_is, check_faultless, checked_refused}

-- ---- all of a report

module _ (s marked : List ℕ) {out : List ℕ} {p₀ : Pen} (room : Room out 0 (pack_from 0 0 (jump_bits marked s 0 (found_from s 2))))
    (fresh : p₀ ≡ record { at = 0; value = 0; count = 0 }) where
  pub report_ready : Ready out p₀ (jump_bits marked s 0 (found_from s 2))
  report_ready = rw fresh (record { sharp = record { few = omega arith; small = omega arith }; room = room })

  module _ {p : Pen} {o : List ℕ} (e : record { pen = p; out = o } ≡ drawn out p₀ (jump_bits marked s 0 (found_from s 2))) where
    pub report_last : Ready o p []
    report_last = ready_behind (jump_bits marked s 0 (found_from s 2)) [] (jumps_are marked s 0 (found_from s 2)) (rw append-nil report_ready) e

    pub report_put : {r : ℕ} {after : List ℕ} → Put o p.at (pack_from p.value p.count []) r after
        → Put out 0 (pack_from 0 0 (jump_bits marked s 0 (found_from s 2))) r after
    report_put {r} {after} q =
        let q₀ : Put out p₀.at (pack_from p₀.value p₀.count (jump_bits marked s 0 (found_from s 2))) r after
        = rw append-nil at (put_behind (jump_bits marked s 0 (found_from s 2)) [] p₀ e q) in
        rw fresh at q₀

-- ---- the definition

report_refused : (s : List ℕ) {n : Numbered} → indexed s ≡ refused n → jump_report s ≡ refused n
unfolding jump_report
report_refused s e = ap (map_done (λ x. packed (jump_fields (without_line x.lines x.jumps)))) e

report_done : (s : List ℕ) {x : LineIndex} → indexed s ≡ done x → jump_report s ≡ done (packed (jump_fields (without_line x.lines x.jumps)))
unfolding jump_report
report_done s e = ap (map_done (λ x. packed (jump_fields (without_line x.lines x.jumps)))) e

-- an image's report, and how long it is
record ReportIs (s marked : List ℕ) (m : ℕ) : Type 0 where
  is : jump_report s ≡ done (pack_from 0 0 (jump_bits marked s 0 (found_from s 2)))
  long : length (pack_from 0 0 (jump_bits marked s 0 (found_from s 2))) ≡ (7 + 29 * m) / 8

-- ---- the answers

module _ (out : List ℕ) {s : List ℕ} {n : ℕ} (k : Faultless s n) where
  pub report_many : 8191 < n → ◌≡◌ {A = Lent} (record { answer = refused too_many_lines; buffer = out }) (into_buffer (jump_report s) out)
  report_many h = into_refused out (jump_report s) (ap (map_done length) (sym (report_refused s (too_many k h))))

  module _ {marked : List ℕ} (h : n ≤ 8191) (marks : NumbersMarked (map index_line (found_from s 2)) marked)
      {r : Result ℕ Refusal} (c : CountedIs marked 0 (low_targets s (found_from s 2)) 2097152 r) where
    pub report_high : {f : Refusal} → r ≡ Err f → ◌≡◌ {A = Lent} (record { answer = refused (numbered f); buffer = out }) (into_buffer (jump_report s) out)
    report_high {f} e =
        let high : f ≡ TargetTooHigh = subst (AtMost 2097152) e c.few in
        rw high (into_refused out (jump_report s) (ap (map_done length) (sym (report_refused s (too_high k c marks h (e ∙ ap Err high))))))

    module _ {m : ℕ} (e : r ≡ Ok m) where
      report_is : ReportIs s marked m
      unfolding packed
      report_is =
          let x = indexed_is k c marks h e in
          record {
            is = report_done s x.is ∙ ap (λ (b : List ℕ). done (pack_from 0 0 b)) (sym x.bits);
            long = pack_length (jump_bits marked s 0 (found_from s 2)) 0 0 (omega arith) ∙ omega (arith, x.size);
          }

      needed : done ((7 + 29 * m) / 8) ≡ map_done length (jump_report s)
      needed = ap done (sym report_is.long) ∙ ap (map_done length) (sym report_is.is)

      pub report_none : length out < (7 + 29 * m) / 8 → ◌≡◌ {A = Lent} (record { answer = refused (no_room ((7 + 29 * m) / 8)); buffer = out }) (into_buffer (jump_report s) out)
      report_none l = into_none out (jump_report s) needed l

      pub report_room : (7 + 29 * m) / 8 ≤ length out → Room out 0 (pack_from 0 0 (jump_bits marked s 0 (found_from s 2)))
      report_room l = record { room = omega (arith, report_is.long) }

      pub report_stored : (7 + 29 * m) / 8 ≤ length out → {q : ℕ} {after : List ℕ} → Put out 0 (pack_from 0 0 (jump_bits marked s 0 (found_from s 2))) q after
          → ◌≡◌ {A = Lent} (record { answer = done q; buffer = after }) (into_buffer (jump_report s) out)
      report_stored l p = into_done out (jump_report s) (sym report_is.is) (subst (HasRoom out) (sym report_is.is) (report_room l)) p

-- ---- from the check of an image

module _ (s : List ℕ) {r : Result Overview Refusal} (e : answered r ≡ overview link_step s) where
  pub check_marked : {v : Overview} {marked : List ℕ} → r ≡ Ok v → marked ≡ line_marks (replicate 65536 0) (lined_from link_step s 2).lines
      → NumbersMarked (map index_line (found_from s 2)) marked
  check_marked is m =
      let lines = ap (λ (x : Lined). line_marks (replicate 65536 0) x.lines) (accepted link_sound s (check_faultless s e is).sound) in
      record {
        tells = λ t h. let low : t < 65536 = omega arith in
            ap (λ (x : List ℕ). has_mark x t) (m ∙ lines) ∙ numbers_marked (found_from s 2) t ∙ ap (λ (b : Bool). b && has_line (map index_line (found_from s 2)) t) (lt-ltb t 65536 low);
      }

  pub report_unread : (out : List ℕ) {f : Refusal} → r ≡ Err f
      → ◌≡◌ {A = Lent} (record { answer = refused (numbered f); buffer = out }) (into_buffer (jump_report s) out)
  report_unread out is = into_refused out (jump_report s) (ap (map_done length) (sym (report_refused s (checked_refused s e is))))
