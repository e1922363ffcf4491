-- What the tree of a fine constant is like: every leaf is what 01 allows, and nothing is left out, at every depth.
-- Assumes nothing.
use Rattle.std.specs.Prelude.{◌≡◌, true, List, ◌∷◌, map, ℕ, suc, ◌+◌, ◌*◌, ◌≤◌, ◌<◌, length, Some, Option}
use Rattle.basis.specs.Kit.{sym, ap, ◌∙◌}
use Rattle.octets.specs.Octets.{part}
use Rattle.reply.specs.declared.Refusal.TheVariants.{BadRequest}
use Rattle.reply.specs.Verdicts.{first_fault, judged, fine}
use Rattle.reply.proofs.VerdictLaws.{first-fine-front, first-fine-rest}
use Rattle.field.specs.Field.{field_at}
use Rattle.field.specs.Walk.{walk, tags_in}
use Rattle.form.specs.Each.{each}
use Rattle.field.proofs.WalkLaws.{walk_step}
use Rattle.request.specs.Table.{message_constant_tag, list_tag}
use Rattle.request.specs.Tree.{PairName, Constants, elements_in, pairs_in, constant_in}
use Rattle.pair.specs.declared.Pair.{Pair}
use Rattle.pair.specs.inner.Pair.{pair_at}
use Rattle.pair.proofs.PairLaws.{pair-steps}
use Rattle.constantform.specs.Leaves.{is_constant, good_pair_name}
use Rattle.constantform.specs.Form.{pairs_of, judge_constant, judge_elements, judge_pairs}
use Rattle.constantform.specs.Fine.{good_name, good_constants, count_of, kind_of, with_name, constant_tags}
use Rattle.constantform.proofs.FineConstants.{walk-within, constant-opened}
use Rattle.constantform.proofs.FineConstants.{constant-fine, elements-fine, pairs-fine}
use Rattle.field.specs.declared.Field.{Field}

module _ (d : ℕ) (s : List ℕ) (l : PairName) (n : good_name s l ≡ true) (t a e : ℕ) (rest : Constants) (h : e ≤ length s)
    (p : judge_constant d s t a e ≡ fine) where
  -- A fine constant is one constant of the tree, in front of what follows it.
  pub fine-constant : count_of (constant_in d s l t a e rest) ≡ 1 + count_of rest
  fine-constant = (constant-fine d s l n t a e rest h p).whole

  -- It is of the kind that its tag says.
  pub fine-constant-tag : constant_tags (constant_in d s l t a e rest) ≡ with_name l (kind_of t ∷ constant_tags rest)
  fine-constant-tag = (constant-fine d s l n t a e rest h p).tags

  -- Every name and identifier in a fine constant is what 01 allows, at every depth.
  pub fine-good-constant : good_constants s rest ≡ true → good_constants s (constant_in d s l t a e rest) ≡ true
  fine-good-constant = (constant-fine d s l n t a e rest h p).good

module _ (d : ℕ) (s : List ℕ) (a e : ℕ) (h : e ≤ length s) where
  -- Every field of a fine list is an element of it in the tree.
  pub fine-elements : judge_elements d s a e ≡ fine → count_of (elements_in (constant_in d s) (walk s a e)) ≡ length (tags_in (walk s a e))
  unfolding judge_elements
  fine-elements p = (elements-fine d s (walk s a e) (walk-within s e h a) p).whole

  -- Each is of the kind that its tag says, in order.
  pub fine-element-tags : judge_elements d s a e ≡ fine
      → constant_tags (elements_in (constant_in d s) (walk s a e)) ≡ map kind_of (tags_in (walk s a e))
  unfolding judge_elements
  fine-element-tags p = (elements-fine d s (walk s a e) (walk-within s e h a) p).tags

  -- Every name and identifier in a fine list is what 01 allows, at every depth.
  pub fine-good-elements : judge_elements d s a e ≡ fine → good_constants s (elements_in (constant_in d s) (walk s a e)) ≡ true
  unfolding judge_elements
  fine-good-elements p = (elements-fine d s (walk s a e) (walk-within s e h a) p).good

  -- Every two fields of a fine message are a pair of it in the tree.
  pub fine-pairs : judge_pairs d s a e ≡ fine → 2 * count_of (pairs_in (constant_in d s) (walk s a e)) ≡ length (tags_in (walk s a e))
  unfolding judge_pairs
  fine-pairs p = (pairs-fine d s (walk s a e) (walk-within s e h a) p).whole

  -- Each is a name and a constant of the kinds that their tags say, in order.
  pub fine-pair-tags : judge_pairs d s a e ≡ fine → constant_tags (pairs_in (constant_in d s) (walk s a e)) ≡ map kind_of (tags_in (walk s a e))
  unfolding judge_pairs
  fine-pair-tags p = (pairs-fine d s (walk s a e) (walk-within s e h a) p).tags

  -- Every name and identifier in a fine message is what 01 allows, at every depth.
  pub fine-good-pairs : judge_pairs d s a e ≡ fine → good_constants s (pairs_in (constant_in d s) (walk s a e)) ≡ true
  unfolding judge_pairs
  fine-good-pairs p = (pairs-fine d s (walk s a e) (walk-within s e h a) p).good

module _ (d : ℕ) (s : List ℕ) (a e : ℕ) where
  -- What a fine message holds is fine, with one level less: so the above holds of it too.
  pub fine-in-message : judge_constant (suc d) s message_constant_tag a e ≡ fine → judge_pairs d s a e ≡ fine
  unfolding judge_pairs
  fine-in-message p = constant-opened (is_constant message_constant_tag) (judge_pairs d s a e) p

  -- So it is of what a fine list holds.
  pub fine-in-list : judge_constant (suc d) s list_tag a e ≡ fine → judge_elements d s a e ≡ fine
  unfolding judge_elements
  fine-in-list p = constant-opened (is_constant list_tag) (judge_elements d s a e) p

module _ (d : ℕ) (s : List ℕ) (i to : ℕ) (p : judge_elements d s i to ≡ fine) (h : i < to)
    (r : Option Field) (q : r ≡ field_at s i to) (f : Field) (g : r ≡ Some f) where
  element-opened : first_fault (judge_constant d s f.tag f.from f.to) (judge_elements d s f.to to) ≡ fine
  unfolding judge_elements
  element-opened = ap (each BadRequest (judge_constant d s)) (sym (walk_step s i to h r q f g)) ∙ p

  -- Where a fine list has a field, that is a fine constant: so on to every depth.
  pub fine-element : judge_constant d s f.tag f.from f.to ≡ fine
  fine-element = first-fine-front (judge_constant d s f.tag f.from f.to) (judge_elements d s f.to to) element-opened

  -- What follows an element of a fine list is fine.
  pub fine-element-next : judge_elements d s f.to to ≡ fine
  fine-element-next = first-fine-rest (judge_constant d s f.tag f.from f.to) (judge_elements d s f.to to) element-opened

module _ (d : ℕ) (s : List ℕ) (i to : ℕ) (p : judge_pairs d s i to ≡ fine)
    (r : Option Pair) (q : r ≡ pair_at s i to) (x : Pair) (g : r ≡ Some x) where
  pair-opened : first_fault (judge_constant d s x.tag x.constant.from x.constant.to) (judge_pairs d s x.constant.to to) ≡ fine
  unfolding judge_pairs
  pair-opened =
      first-fine-rest (judged BadRequest (good_pair_name x.by (part s x.name.from x.name.to)))
      (first_fault (judge_constant d s x.tag x.constant.from x.constant.to) (judge_pairs d s x.constant.to to))
      (ap (pairs_of (judge_constant d s) s) (sym (pair-steps s i to r q x g)) ∙ p)

  -- Where a fine message has a pair, its constant is fine.
  pub fine-pair : judge_constant d s x.tag x.constant.from x.constant.to ≡ fine
  fine-pair =
      first-fine-front (judge_constant d s x.tag x.constant.from x.constant.to) (judge_pairs d s x.constant.to to) pair-opened

  -- What follows a pair of a fine message is fine.
  pub fine-pair-next : judge_pairs d s x.constant.to to ≡ fine
  fine-pair-next =
      first-fine-rest (judge_constant d s x.tag x.constant.from x.constant.to) (judge_pairs d s x.constant.to to) pair-opened
