-- Where the i-th option of a fine request stands, and its bytes.
--
--   Placed r from w i o <-> the i-th of the fields w, from the place `from` on in r, is a fine option, and in the tree it is o
--
-- Assumes nothing.
use Rattle.std.specs.Prelude.{◌≡◌, refl, Bool, true, false, List, ℕ, zero, suc, ◌+◌, ◌-◌, ◌≤◌, ◌<◌, ltb, length, Some, None, Option}
use Rattle.basis.specs.Kit.{sym, ap, ◌∙◌}
use Rattle.basis.proofs.Kit.{arith}
use lib.ListN.{get_elem?}
use mathlib.Core.Option as option
use borrow.Author.Tests.{ltb-true, ltb-false}
use Rattle.basis.proofs.Never.{never}
use Rattle.octets.specs.Octets.{part}
use Rattle.reply.specs.declared.Refusal.TheVariants.{BadRequest}
use Rattle.reply.proofs.VerdictLaws.{refused-fine}
use Rattle.field.specs.Field.{header, field_at, field}
use Rattle.field.specs.Walk.{Walk, step, walk}
use Rattle.field.proofs.FieldLaws.{field-bounds}
use Rattle.field.proofs.WalkLaws.{walk-done, walk-cut, walk_step}
use Rattle.form.specs.Each.{each_from}
use Rattle.request.specs.Table.{option_tag}
use Rattle.request.specs.Request.{RequestOption, option_of, option_in, options_in}
use Rattle.optionform.specs.Form.{judge_option}
use Rattle.optionform.proofs.FineLaws.{option-tagged}
use Rattle.requestform.proofs.FineLaws.{fine-option-at, fine-option-next}
use Rattle.alone.specs.Alone.{field_bytes}
use Rattle.field.specs.declared.Field.{Field}
use Rattle.reply.specs.Verdicts.{fine}

-- the first of fine options, n before it
record Opened (r : List ℕ) (n at : ℕ) : Type 0 where
  from : ℕ
  to : ℕ
  field : field_at r at (length r) ≡ Some (field option_tag from to)
  walks : walk r at (length r) ≡ step option_tag from to (walk r to (length r))
  next : each_from BadRequest (judge_option r) (n + 1) (walk r to (length r)) ≡ fine
  fine : judge_option r n option_tag from to ≡ fine

pub record Placed (r : List ℕ) (from : ℕ) (w : Walk) (i : ℕ) (o : RequestOption) : Type 0 where
  pub at : ℕ
  pub start : ℕ
  pub to : ℕ
  pub index : ℕ
  pub begun : from ≤ at
  pub field : field_at r at (length r) ≡ Some (field option_tag start to)
  pub bytes : field_bytes r w i ≡ part r at to
  pub fine : judge_option r index option_tag start to ≡ fine
  pub is : o ≡ option_of r start to

module _ (r : List ℕ) where
  module _ (n at : ℕ) (f : each_from BadRequest (judge_option r) n (walk r at (length r)) ≡ fine) where
    open-field : at < length r → (v : Option Field) → v ≡ field_at r at (length r) → Opened r n at
    open-field l None q =
        absurd (refused-fine BadRequest (ap (each_from BadRequest (judge_option r) n) (sym (walk-cut r at (length r) l None q refl)) ∙ f))
    open-field l (Some found) q =
        let here = fine-option-at r n at (length r) f l (Some found) q found refl in
        let y : found.tag ≡ option_tag = option-tagged r n found.tag found.from found.to here in
        record {
          from = found.from;
          to = found.to;
          field = sym q ∙ ap (λ (k : ℕ). Some (field k found.from found.to)) y;
          walks = walk_step r at (length r) l (Some found) q found refl ∙ ap (λ (k : ℕ). step k found.from found.to (walk r found.to (length r))) y;
          next = fine-option-next r n at (length r) f l (Some found) q found refl;
          fine = rw y at here;
        }

    opened : (i : ℕ) (o : RequestOption) → get_elem? (options_in r (walk r at (length r))) i ≡ option.some o → Opened r n at
    opened i o g = go (ltb at (length r)) refl
      where
        go : (b : Bool) → ltb at (length r) ≡ b → Opened r n at
        go true l = open-field (ltb-true at (length r) l) (field_at r at (length r)) refl
        go false l =
            let z = ap (λ (w : Walk). get_elem? (options_in r w) i) (sym (walk-done r at (length r) (ltb-false at (length r) l))) ∙ g in
            never cc

  pub placed : (i n at : ℕ) (o : RequestOption) → each_from BadRequest (judge_option r) n (walk r at (length r)) ≡ fine
      → get_elem? (options_in r (walk r at (length r))) i ≡ option.some o → Placed r at (walk r at (length r)) i o
  unfolding option_in
  placed zero n at o f g =
      let x = opened n at f zero o g in
      let b = field-bounds r at (length r) (field_at r at (length r)) refl (field option_tag x.from x.to) x.field in
      let e : x.from - header ≡ at = omega (arith, b.starts) in
      let z : option.some (option_of r x.from x.to) ≡ option.some o = ap (λ (w : Walk). get_elem? (options_in r w) zero) (sym x.walks) ∙ g in
      record {
        at = at;
        start = x.from;
        to = x.to;
        index = n;
        begun = omega arith;
        field = x.field;
        bytes = ap (λ (w : Walk). field_bytes r w zero) x.walks ∙ ap (λ (k : ℕ). part r k x.to) e;
        fine = x.fine;
        is = cc;
      }
  placed (suc i) n at o f g =
      let x = opened n at f (suc i) o g in
      let b = field-bounds r at (length r) (field_at r at (length r)) refl (field option_tag x.from x.to) x.field in
      let k = placed i (n + 1) x.to o x.next (ap (λ (w : Walk). get_elem? (options_in r w) (suc i)) (sym x.walks) ∙ g) in
      record {
        at = k.at;
        start = k.start;
        to = k.to;
        index = k.index;
        begun = omega (arith, b.starts, b.ordered, k.begun);
        field = k.field;
        bytes = ap (λ (w : Walk). field_bytes r w (suc i)) x.walks ∙ k.bytes;
        fine = k.fine;
        is = k.is;
      }
