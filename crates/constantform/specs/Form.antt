-- The verdict of a constant: 01, Replies, "the first fault from the front (a container holds its children's faults; a limit is a fault
-- where it is passed)".
--
--                   bad_request == a fault of form
--            pairs_of inner s w == the pairs among the fields w, `inner` judging a constant
--   constant_with inner s t a e == a constant, `inner` judging those inside it
--      judge_constant d s t a e == a constant, with d levels of constants left
--        judge_elements d s a e == the elements of a list
--           judge_pairs d s a e == the pairs of a message constant
--
-- Assumes nothing.
use Rattle.std.specs.Prelude.{true, false, List, ℕ, zero, suc, eqb, Err}
use Rattle.octets.specs.Octets.{part}
use Rattle.reply.specs.declared.Refusal.TheVariants.{BadRequest}
use Rattle.reply.specs.Verdicts.{first_fault, judged, beyond, Verdict, fine}
use Rattle.field.specs.Walk.{Walk, done, cut, step, walk}
use Rattle.form.specs.Each.{each}
use Rattle.request.specs.Table.{message_constant_tag, list_tag}
use Rattle.constantform.specs.Leaves.{is_constant, good_scalar, good_pair_name}

abbrev pub bad_request : Verdict
bad_request = Err BadRequest

-- "26 message, pairs of a name .. and a constant" [FORM-4, FAULT-7]
abbrev pub pairs_of : (inner : (tag from to : ℕ) → Verdict) (s : List ℕ) → Walk → Verdict
pairs_of inner s done = fine
pairs_of inner s cut = bad_request
pairs_of inner s (step t a e done) = bad_request
pairs_of inner s (step t a e cut) = bad_request
pairs_of inner s (step t a e (step k b f w)) =
    first_fault (judged BadRequest (good_pair_name t (part s a e))) (first_fault (inner k b f) (pairs_of inner s w))

abbrev pub constant_with : (inner : (tag from to : ℕ) → Verdict) (s : List ℕ) (tag from to : ℕ) → Verdict
constant_with inner s t a e = elim (eqb t message_constant_tag) [
  | true ↦ pairs_of inner s (walk s a e)
  | false ↦ elim (eqb t list_tag) [ true ↦ each BadRequest inner (walk s a e) | false ↦ judged BadRequest (good_scalar t (part s a e)) ]
]

-- "constants of any kind nested 16 deep"; "The outermost .. constant is depth 1"; scalars count too, and a wrong tag is form at any depth
-- [LIMIT-2, FAULT-5]
abbrev pub judge_constant : (left : ℕ) (s : List ℕ) (tag from to : ℕ) → Verdict
judge_constant zero s t a e = elim (is_constant t) [ true ↦ beyond | false ↦ bad_request ]
judge_constant (suc d) s t a e = elim (is_constant t) [ true ↦ constant_with (judge_constant d s) s t a e | false ↦ bad_request ]

unfoldable pub judge_elements : (left : ℕ) (s : List ℕ) (from to : ℕ) → Verdict
judge_elements d s a e = each BadRequest (judge_constant d s) (walk s a e)

unfoldable pub judge_pairs : (left : ℕ) (s : List ℕ) (from to : ℕ) → Verdict
judge_pairs d s a e = pairs_of (judge_constant d s) s (walk s a e)
