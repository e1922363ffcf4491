-- Constants: the ways through `check_constant`, `check_elements` and `check_pairs`.
-- Assumes nothing.
use Rattle.std.specs.Prelude.{◌≡◌, refl, Bool, true, false, List, ℕ, zero, suc, ◌-◌, ◌≤◌, ◌<◌, length, Err, None, Some, Option}
use Rattle.basis.specs.Kit.{sym, ap, ◌∙◌}
use Rattle.basis.proofs.Kit.{arith, eq-eqb, ne_eqb, not-true, not-false}
use mathlib.Core.Bool.{false≢true}
use Rattle.octets.specs.Octets.{part}
use Rattle.reply.specs.declared.Refusal.{Refusal}
use Rattle.reply.specs.declared.Refusal.TheVariants.{BadRequest}
use Rattle.reply.specs.Verdicts.{judged, Verdict, fine}
use Rattle.field.specs.Walk.{Walk, done, cut, step}
use Rattle.form.specs.Each.{each}
use Rattle.field.proofs.FieldLaws.{field-ordered}
use Rattle.field.proofs.Rest.{Rest, rest-start, rest_end}
use Rattle.form.proofs.EachLaws.{each_laws}
use Rattle.request.specs.Table.{message_constant_tag, list_tag, pair_field_tag, pair_extension_tag, pair_url_tag}
use Rattle.request.specs.Constant.{is_pair_name}
use Rattle.pair.specs.declared.Pair.{Pair}
use Rattle.pair.specs.inner.Pair.{pair_at}
use Rattle.pair.proofs.PairLaws.{Pairless, broken, unnamed, alone, cut_short, rest-pairless, rest-pair, rest-pair-next, pair_places}
use Rattle.constantform.specs.Leaves.{is_constant, good_scalar, good_pair_name}
use Rattle.reply.specs.Verdicts.{beyond}
use Rattle.field.specs.declared.fields.Fields.{Fields}
use Rattle.field.proofs.InFields.{RestIn, rest-in-start}
use Rattle.form.proofs.EachLaws.{each_in_laws}
use Rattle.constantform.specs.Form.{bad_request, pairs_of, constant_with, judge_constant, judge_elements, judge_pairs}
use Rattle.constantform.proofs.LeafLaws.{pair-name-other}

-- ---- check_constant
constant-open : (d : ℕ) (s : List ℕ) (t a e : ℕ) → (d ≡ 0 → ⊥) → is_constant t ≡ true
    → judge_constant d s t a e ≡ constant_with (judge_constant (d - 1) s) s t a e
constant-open zero s t a e z h = absurd (z refl)
constant-open (suc d) s t a e z h = let p : suc d - 1 ≡ d = omega arith in simp (judge_constant, p, h)

constant-closed : (d : ℕ) (s : List ℕ) (t a e : ℕ) → is_constant t ≡ false → bad_request ≡ judge_constant d s t a e
constant-closed zero s t a e h = simp (judge_constant, h)
constant-closed (suc d) s t a e h = simp (judge_constant, h)

module _ (d : ℕ) (s : List ℕ) (t a e : ℕ) (b : Bool) (q : b ≡ is_constant t) where
  pub constant-other : b ≡ false → bad_request ≡ judge_constant d s t a e
  constant-other h = constant-closed d s t a e (sym q ∙ h)

  module _ (h : b ≡ true) where
    pub constant-beyond : d ≡ 0 → beyond ≡ judge_constant d s t a e
    constant-beyond z = rw z (simp (judge_constant, ← q, h))

    module _ (z : d ≡ 0 → ⊥) where
      pub constant-message : t ≡ message_constant_tag → (v : Verdict) → v ≡ judge_pairs (d - 1) s a e → v ≡ judge_constant d s t a e
      unfolding judge_pairs
      constant-message y v p = simp (constant-open d s t a e z (sym q ∙ h), constant_with, eq-eqb t message_constant_tag y) p

      module _ (m : t ≡ message_constant_tag → ⊥) where
        pub constant-list : t ≡ list_tag → (v : Verdict) → v ≡ judge_elements (d - 1) s a e → v ≡ judge_constant d s t a e
        unfolding judge_elements
        constant-list y v p =
            simp (constant-open d s t a e z (sym q ∙ h), constant_with, ne_eqb t message_constant_tag m, eq-eqb t list_tag y) p

        pub constant-scalar : (t ≡ list_tag → ⊥) → (g : Bool) → g ≡ good_scalar t (part s a e)
            → (v : Verdict) → v ≡ judged BadRequest g → v ≡ judge_constant d s t a e
        constant-scalar n g x v p =
            simp (constant-open d s t a e z (sym q ∙ h), constant_with, ne_eqb t message_constant_tag m, ne_eqb t list_tag n, ← x) p

pub ruleset constant_laws =
    (not-true, not-false, constant-other, constant-beyond, constant-message, constant-list, constant-scalar)

-- ---- check_elements
pub elements-start : (d : ℕ) (s : List ℕ) (from to : ℕ) (it : Fields) → it.bytes.now ≡ s → it.at ≡ from → it.end ≡ to → from ≤ to → to ≤ length s
    → RestIn (judge_elements d s from to) (each BadRequest (judge_constant d s)) s to it
unfolding judge_elements
elements-start d s from to it b a e h k =
    rest-in-start (judge_elements d s from to) (each BadRequest (judge_constant d s)) s from to it refl b a e h k

pub ruleset element_laws = (elements-start, each_in_laws)

-- ---- check_pairs
pub pairs_start : (d : ℕ) (s : List ℕ) (from to : ℕ) → from ≤ to → to ≤ length s
    → Rest (judge_pairs d s from to) (pairs_of (judge_constant d s) s) s to from
unfolding judge_pairs
pairs_start d s from to h k = rest-start (pairs_of (judge_constant d s) s) s from to h k

unnamed-bad : (t : ℕ) (bs : List ℕ) → is_pair_name t ≡ false → false ≡ good_pair_name t bs
unfolding is_pair_name
unnamed-bad t bs h =
    let no : (k : ℕ) → is_pair_name k ≡ true → t ≡ k → ⊥ = λ k y e. false≢true (sym h ∙ ap is_pair_name e ∙ y) in
    pair-name-other t bs (no pair_field_tag refl) (no pair_extension_tag refl) (no pair_url_tag refl)

pairless-malformed : (inner : ℕ → ℕ → ℕ → Verdict) (s : List ℕ) (w : Walk) → Pairless w → pairs_of inner s w ≡ bad_request
pairless-malformed inner s done x' = elim x' [ ]
pairless-malformed inner s cut broken = refl
pairless-malformed inner s (step t a e done) alone = refl
pairless-malformed inner s (step t a e cut) cut_short = refl
pairless-malformed inner s (step t a e done) (unnamed y) = refl
pairless-malformed inner s (step t a e cut) (unnamed y) = refl
pairless-malformed inner s (step t a e (step k b f w)) (unnamed y) = simp (← unnamed-bad t (part s a e) y)

module _ (inner : ℕ → ℕ → ℕ → Verdict) (v : Verdict) (s : List ℕ) (to i : ℕ) (k : Rest v (pairs_of inner s) s to i) where
  pub pairs_end : to ≤ i → fine ≡ v
  pairs_end h = sym (rest_end v (pairs_of inner s) s to i k h)

  module _ (r : Option Pair) (q : r ≡ pair_at s i to) where
    pub pairs-none : i < to → r ≡ None → bad_request ≡ v
    pairs-none h g = sym (rest-pairless v (pairs_of inner s) s to i k r q h g bad_request (pairless-malformed inner s))

    module _ (p : Pair) (g : r ≡ Some p) (b : Bool) (x : b ≡ good_pair_name p.by (part s p.name.from p.name.to)) where
      pub pairs-misnamed : b ≡ false → bad_request ≡ v
      pairs-misnamed y = rw (rest-pair v (pairs_of inner s) s to i k r q p g, ← x, y)

      module _ (y : b ≡ true) (u : Verdict) (z : u ≡ inner p.tag p.constant.from p.constant.to) where
        pub pairs-refused : (w : Refusal) → u ≡ Err w → Err w ≡ v
        pairs-refused w o = rw (rest-pair v (pairs_of inner s) s to i k r q p g, ← x, y, ← z, o)

        pub pairs_next : u ≡ fine → Rest v (pairs_of inner s) s to p.constant.to
        pairs_next o = rest-pair-next v (pairs_of inner s) s to i k r q p g (pairs_of inner s) (rw (← x, y, ← z, o))

pub ruleset pairs_laws =
    (not-true, not-false, pairs_start, pairs_end, pairs-none, pairs-misnamed, pairs-refused, pairs_next, pair_places)
