-- The verdict of a request, and of a path or a name that a call is given alone: 01, Replies, "by over-length, then .. the first fault from
-- the front (a container holds its children's faults; a limit is a fault where it is passed)".
--
--   judge_options s a e == the options of a request
--       judge_request s == a request
--        whole_name n p == a name of n bytes whose parts come to p
--          judge_name s == the parts of a name, alone
--         judge_scope t == a scope, alone
--   judge_options_type t == the path of an options type, alone
--          judge_path t == a path as an extension part has it, alone
--
-- Assumes nothing.
use Rattle.std.specs.Prelude.{true, false, ◌&&◌, List, ℕ, eqb, ltb, length, not, Err, Ok, Result}
use Rattle.limits.specs.Figures.{most_request}
use Rattle.path.specs.Path.{is_rel_path, is_rel_or_empty, is_path}
use Rattle.reply.specs.declared.Refusal.TheVariants.{BadRequest}
use Rattle.reply.specs.Verdicts.{judged, beyond, Verdict}
use Rattle.field.specs.Walk.{walk}
use Rattle.field.specs.Leaf.{on_leaf, leaf_at}
use Rattle.form.specs.Each.{each_from}
use Rattle.request.specs.Table.{scope_tag, options_type_tag}
use Rattle.constantform.specs.Form.{bad_request}
use Rattle.optionform.specs.Form.{parts_from, judge_option}
use Rattle.reply.specs.declared.Refusal.{Refusal}

unfoldable pub judge_options : (s : List ℕ) (from to : ℕ) → Verdict
judge_options s a e = each_from BadRequest (judge_option s) 0 (walk s a e)

-- a request: "18 scope, 19 options type path, then 08 options"; "request 8,192 bytes" [FORM-2, FORM-16, LIMIT-1]
unfoldable pub judge_request : (s : List ℕ) → Verdict
judge_request s = elim (ltb most_request (length s)) [
  | true ↦ beyond
  | false ↦
      on_leaf bad_request (leaf_at scope_tag is_rel_or_empty s 0 (length s)) λ scope.
      on_leaf bad_request (leaf_at options_type_tag is_rel_path s scope.to (length s)) λ type.
      judge_options s type.to (length s)
]

-- "Value query: .. a name as in 08" [FORM-14]
abbrev pub whole_name : (size : ℕ) → Result ℕ Refusal → Verdict
whole_name n (Err w) = Err w
whole_name n (Ok at) = judged BadRequest (not (eqb at 0) && eqb at n)

unfoldable pub judge_name : (s : List ℕ) → Verdict
judge_name s = whole_name (length s) (parts_from s 0 0 (walk s 0 (length s)))

unfoldable pub judge_scope : (text : List ℕ) → Verdict
judge_scope t = judged BadRequest (is_rel_or_empty t)

unfoldable pub judge_options_type : (text : List ℕ) → Verdict
judge_options_type t = judged BadRequest (is_rel_path t)

unfoldable pub judge_path : (text : List ℕ) → Verdict
judge_path t = judged BadRequest (is_path t)
