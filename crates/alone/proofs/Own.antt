-- What an option comes to does not depend on what stands around it. The statement stands at the end.
-- Assumes nothing.
use Rattle.std.specs.Prelude.{◌≡◌, refl, true, List, [], ◌∷◌, ◌++◌, ℕ, ◌+◌, ◌-◌, ◌≤◌, length, take, Some, Option}
use Rattle.basis.specs.Kit.{sym, ap, ◌∙◌}
use Rattle.basis.proofs.Kit.{arith}
use lib.ListN.{get_elem?}
use mathlib.Core.Option as option
use Rattle.limits.specs.Figures.{most_request}
use Rattle.path.specs.Path.{is_rel_path, is_rel_or_empty}
use Rattle.reply.specs.declared.Refusal.TheVariants.{BadRequest}
use Rattle.reply.specs.Verdicts.{first_fault, Verdict, fine}
use Rattle.field.specs.Field.{field_at, field}
use Rattle.field.specs.Leaf.{text, any_bytes, leaf_at}
use Rattle.field.specs.Walk.{done, step, walk}
use Rattle.field.proofs.FieldLaws.{Bounds, field-bounds}
use Rattle.field.proofs.LeafLaws.{leaf-good}
use Rattle.field.proofs.WalkLaws.{walk-done, walk_step}
use Rattle.form.specs.Each.{each_from}
use Rattle.request.specs.declared.heading.Heading.{Heading}
use Rattle.request.specs.Table.{scope_tag, options_type_tag, option_tag}
use Rattle.request.specs.Request.{RequestOption, heading_of, option_of, option_in, options_in, request_with, request_of}
use Rattle.request.proofs.RequestLaws.{options-inside}
use Rattle.optionform.specs.Form.{judge_option}
use Rattle.optionform.proofs.FineLaws.{option-few}
use Rattle.requestform.specs.Form.{judge_options, judge_request}
use Rattle.requestform.proofs.FineLaws.{fine-scope, fine-options-type, fine-options}
use Rattle.requestform.proofs.RequestLaws.{request-options}
use Rattle.lookups.specs.Lookups.{Lookups, Message}
use Rattle.options.specs.Settle.{settle}
use Rattle.options.proofs.OpenLaws.{fine-short}
use Rattle.alone.specs.Alone.{alone_with, alone, fault_of, Own}
use Rattle.alone.proofs.Windows.{Twin}
use Rattle.alone.proofs.Fields.{field_end, Moved, field-moved}
use Rattle.alone.proofs.FormLaws.{option-same}
use Rattle.alone.proofs.Trees.{option-of-same}
use Rattle.alone.proofs.SettleLaws.{settle-same}
use Rattle.alone.proofs.Placed.{Placed, placed}
use Rattle.alone.proofs.Taken.{taken, taken-length, front-twin, back-twin}
use Rattle.alone.proofs.Headings.{Leaves, leaves_kept, heading-kept, scope_kept, type-kept}

module _ (r : List ℕ) (f : judge_request r ≡ fine) (h : Heading) (q : heading_of r ≡ Some h) (i : ℕ) (o : RequestOption)
    (p : Placed r h.options (walk r h.options (length r)) i o) where
  abbrev own : List ℕ
  own = taken r h.options p.at p.to

  bounds : Bounds p.at (length r) p.start p.to
  bounds = field-bounds r p.at (length r) (field_at r p.at (length r)) refl (field option_tag p.start p.to) p.field

  inside : h.options ≤ length r
  inside = options-inside r (heading_of r) refl h q

  own-length : length own ≡ h.options + (p.to - p.at)
  own-length = taken-length r h.options p.at p.to inside bounds.inside

  -- ---- the heading
  abbrev front : Twin r own
  front = front-twin r h.options p.at p.to inside bounds.inside

  own-leaves : Leaves own h
  own-leaves = leaves_kept front refl refl h (omega arith) q

  own-heading : heading_of own ≡ Some h
  own-heading = heading-kept front refl refl h (omega arith) q

  own-scope : text own h.scope ≡ text r h.scope
  own-scope = scope_kept front refl refl h (omega arith) q

  own-type : text own h.options_type ≡ text r h.options_type
  own-type = type-kept front refl refl h (omega arith) q

  request-scope : text own (request_of own).scope ≡ text r (request_of r).scope
  unfolding request_of
  request-scope =
      ap (λ (v : Option Heading). text own (request_with own v).scope) own-heading ∙ own-scope
      ∙ sym (ap (λ (v : Option Heading). text r (request_with r v).scope) q)

  request-type : text own (request_of own).options_type ≡ text r (request_of r).options_type
  unfolding request_of
  request-type =
      ap (λ (v : Option Heading). text own (request_with own v).options_type) own-heading ∙ own-type
      ∙ sym (ap (λ (v : Option Heading). text r (request_with r v).options_type) q)

  -- ---- the option
  abbrev back : Twin r own
  back = back-twin r h.options p.at p.to inside bounds.inside (omega (arith, bounds.starts, bounds.ordered))

  own-field : Moved back option_tag p.start p.to (field_at own h.options (length own))
  own-field =
      let l : p.at ≤ p.to = omega (arith, bounds.starts, bounds.ordered) in
      field-moved back option_tag p.start p.to
      (record { moved = omega arith; begun = omega arith; ended = omega arith })
      (record { moved = omega (arith, own-length); begun = l; ended = omega arith })
      (field_end r p.at (length r) option_tag p.start p.to p.field p.to (omega arith))

  abbrev from : ℕ
  from = own-field.from

  abbrev to : ℕ
  to = own-field.to

  own-walk : walk own h.options (length own) ≡ step option_tag from to done
  own-walk =
      walk_step own h.options (length own) (omega (arith, own-length, bounds.starts, bounds.ordered))
      (field_at own h.options (length own)) refl (field option_tag from to) own-field.whole
      ∙ ap (step option_tag from to) (walk-done own to (length own)
      (omega (arith, own-length, own-field.places.to.moved, bounds.starts, bounds.ordered)))

  own-options : (request_of own).options ≡ option_of own from to ∷ []
  unfolding request_of option_in
  own-options = ap (λ (v : Option Heading). (request_with own v).options) own-heading ∙ ap (options_in own) own-walk

  -- ---- the form
  own-judged : judge_option own 0 option_tag from to ≡ fine
  own-judged =
      sym (option-same back p.index 0 (option-few r p.index p.start p.to p.fine) (omega arith) own-field.places) ∙ p.fine

  own-judged-all : fine ≡ judge_options own h.options (length own)
  unfolding judge_options
  own-judged-all =
      sym (ap (each_from BadRequest (judge_option own) 0) own-walk ∙ ap (λ (v : Verdict). first_fault v fine) own-judged)

  own-scoped : Some h.scope ≡ leaf_at scope_tag is_rel_or_empty own 0 (length own)
  own-scoped =
      leaf-good scope_tag is_rel_or_empty own 0 (length own) (leaf_at scope_tag any_bytes own 0 (length own)) refl h.scope
      own-leaves.scope true (sym (ap is_rel_or_empty own-scope ∙ fine-scope r f (heading_of r) refl h q)) refl

  own-typed : Some h.options_type ≡ leaf_at options_type_tag is_rel_path own h.scope.to (length own)
  own-typed =
      leaf-good options_type_tag is_rel_path own h.scope.to (length own)
      (leaf_at options_type_tag any_bytes own h.scope.to (length own)) refl h.options_type
      own-leaves.type true
      (sym (ap is_rel_path own-type ∙ fine-options-type r f (heading_of r) refl h q)) refl

  own-short : length own ≤ most_request
  own-short = omega (arith, own-length, fine-short r f, p.begun, bounds.starts, bounds.ordered, bounds.inside)

  own-fine : judge_request own ≡ fine
  own-fine =
      sym (request-options own own-short (Some h.scope) own-scoped h.scope refl
      (Some h.options_type) own-typed h.options_type refl fine
      (own-judged-all ∙ ap (λ (n : ℕ). judge_options own n (length own)) own-leaves.options))

  -- ---- what the option comes to
  own_same : (L : Lookups) (s scope : List ℕ) (m : Message)
      → fault_of (settle L s own scope m (option_of own from to)) ≡ fault_of (settle L s r scope m o)
  own_same L s scope m =
      sym (ap (λ (x : RequestOption). fault_of (settle L s r scope m x)) p.is
      ∙ settle-same back L s scope m (option-of-same back own-field.places))

  alone-is : alone r i ≡ own
  unfolding alone
  alone-is = ap (alone_with r i) q ∙ ap (λ (bs : List ℕ). take h.options r ++ bs) p.bytes

  own-all : Own r i o
  own-all = record {
    fine = rw alone-is own-fine;
    scope = rw alone-is request-scope;
    type = rw alone-is request-type;
    own = option_of own from to;
    options = rw alone-is own-options;
    same = λ L s scope m. rw alone-is (own_same L s scope m);
  }

-- ==== the statement
-- An option that is taken out of its fine request and put into a request of its own, with the same scope and options type, is fine there,
-- is the only option, and has the same fault as before, or none.
pub own-request : (r : List ℕ) → judge_request r ≡ fine → (i : ℕ) (o : RequestOption) → get_elem? (request_of r).options i ≡ option.some o → Own r i o
unfolding request_of
own-request r f i o g =
    let v = fine-options r f (heading_of r) refl in
    let h = v.heading in
    own-all r f h v.heads i o
    (placed r i 0 h.options o v.fine (ap (λ (x : Option Heading). get_elem? (request_with r x).options i) (sym v.heads) ∙ g))
