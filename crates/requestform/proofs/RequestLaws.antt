-- Requests, and what a call is given alone: the ways through `check_options`, `check_request`, `check_scope`, `check_options_type`,
-- `check_path` and `check_name`.
-- Assumes nothing.
use Rattle.std.specs.Prelude.{◌≡◌, refl, Bool, ◌&&◌, List, ℕ, ◌+◌, ◌≤◌, ◌<◌, eqb, length, Err, None, Some, Ok, Option, Result}
use Rattle.basis.proofs.Kit.{arith, lt-ltb, le-ltb}
use mathlib.Core.Bool.{not}
use Rattle.limits.specs.Figures.{most_request}
use Rattle.path.specs.Path.{is_rel_path, is_rel_or_empty, is_path}
use Rattle.reply.specs.declared.Refusal.TheVariants.{BadRequest}
use Rattle.reply.specs.Verdicts.{judged, beyond, Verdict}
use Rattle.reply.proofs.VerdictLaws.{says}
use Rattle.reply.specs.declared.Refusal.{Refusal}
use Rattle.field.specs.Leaf.{leaf_at}
use Rattle.field.proofs.LeafLaws.{leaf_inside}
use Rattle.field.specs.Walk.{walk}
use Rattle.field.proofs.FieldLaws.{field-bounds}
use Rattle.form.specs.Each.{each_from}
use Rattle.form.proofs.EachLaws.{each_from_in_laws}
use Rattle.field.specs.declared.fields.Fields.{Fields}
use Rattle.field.specs.Fields.{Goes}
use Rattle.field.proofs.InFields.{RestIn, rest-in-start}
use Rattle.request.specs.Table.{scope_tag, options_type_tag}
use Rattle.constantform.specs.Form.{bad_request}
use Rattle.optionform.specs.Form.{parts_from, judge_option}
use Rattle.requestform.specs.Form.{judge_options, judge_request, judge_scope, judge_options_type, judge_path, judge_name}
use Rattle.field.specs.declared.Field.{Field}
use Rattle.field.specs.declared.Span.{Span}

-- ---- check_options
pub options-start : (s : List ℕ) (from to : ℕ) → from ≤ to → to ≤ length s → (it : Fields) → it.bytes.now ≡ s → it.at ≡ from → it.end ≡ to
    → RestIn (judge_options s from to) (each_from BadRequest (judge_option s) 0) s to it
unfolding judge_options
options-start s from to h k it b i n =
    rest-in-start (judge_options s from to) (each_from BadRequest (judge_option s) 0) s from to it refl b i n h k

-- there are no more fields than bytes
pub index-next : (it it' : Fields) (o : Option Field) → Goes it it' o → (f : Field) → o ≡ Some f → (n : ℕ) → n ≤ it.at → n + 1 ≤ it'.at
index-next it it' o x f g n h =
    let b = field-bounds it.bytes.now it.at it.end o x.is f g in
    let p : it'.at ≡ f.to = rw g at x.at in
    omega (arith, b.starts, b.ordered)

pub ruleset options_laws = (options-start, index-next, each_from_in_laws)

-- ---- check_request
module _ (s : List ℕ) where
  pub request-long : most_request < length s → beyond ≡ judge_request s
  unfolding judge_request
  request-long h = simp (judge_request, lt-ltb most_request (length s) h)

  module _ (h : length s ≤ most_request) (l : Option Span) (q : l ≡ leaf_at scope_tag is_rel_or_empty s 0 (length s)) where
    pub request-scope : l ≡ None → bad_request ≡ judge_request s
    unfolding judge_request
    request-scope g = simp (judge_request, le-ltb most_request (length s) h, ← q, g)

    module _ (u : Span) (g : l ≡ Some u) (m : Option Span) (p : m ≡ leaf_at options_type_tag is_rel_path s u.to (length s)) where
      pub request-type : m ≡ None → bad_request ≡ judge_request s
      unfolding judge_request
      request-type k = simp (judge_request, le-ltb most_request (length s) h, ← q, g, ← p, k)

      pub request-options : (w : Span) → m ≡ Some w → (v : Verdict) → v ≡ judge_options s w.to (length s) → v ≡ judge_request s
      unfolding judge_request
      request-options w k v y = simp (judge_request, le-ltb most_request (length s) h, ← q, g, ← p, k) y

pub ruleset request_laws = (says, request-long, request-scope, request-type, request-options, leaf_inside)

-- ---- check_scope, check_options_type, check_path
module _ (t : List ℕ) (b : Bool) (v : Verdict) (p : v ≡ judged BadRequest b) where
  pub scope-is : b ≡ is_rel_or_empty t → v ≡ judge_scope t
  unfolding judge_scope
  scope-is q = rw (← q) p

  pub type-is : b ≡ is_rel_path t → v ≡ judge_options_type t
  unfolding judge_options_type
  type-is q = rw (← q) p

  pub path-is : b ≡ is_path t → v ≡ judge_path t
  unfolding judge_path
  path-is q = rw (← q) p

pub ruleset alone_laws = (says, scope-is, type-is, path-is)

-- ---- check_name
module _ (s : List ℕ) (r : Result ℕ Refusal) (q : r ≡ parts_from s 0 0 (walk s 0 (length s))) where
  pub name-refused : (w : Refusal) → r ≡ Err w → Err w ≡ judge_name s
  unfolding judge_name
  name-refused w g = rw (← q, g)

  pub name-after : (at : ℕ) → r ≡ Ok at → (v : Verdict) → v ≡ judged BadRequest (not (eqb at 0) && eqb at (length s)) → v ≡ judge_name s
  unfolding judge_name
  name-after at g v p = rw (← q, g) p

pub ruleset name_laws = (says, name-refused, name-after)
