-- The oneofs of a list of fields: where they lie among the counts, in what order, how many there are, and that every group is one of them.
--
--                       Opening w <-> which kind of oneof a word opens, if any
--   reals_with x, synthetics_with x ==  how many of each kind are opened with x
--     Lies r s reals synthetics x <-> the counts before x are r and s or more, and with it reals and synthetics or fewer
--                     Earlier x y <-> the counts before y are those with x, or more
--                 Opens r s ws xs <-> xs are as many as ws opens after r real and s synthetic oneofs, in order, and each in its place
--                       AllOf P o <-> P holds of each oneof that a field of the outcome o belongs to
--
-- Assumes nothing.
use Rattle.std.specs.Prelude.{◌≡◌, refl, Bool, true, false, List, [], ◌∷◌, ℕ, zero, suc, ◌+◌, ◌≤◌, eqb, length, None, Some}
use Rattle.basis.specs.Among.{Among, here, there, Ordered, next}
use Rattle.basis.specs.Count.{count}
use Rattle.basis.proofs.Kit.{arith, ne_eqb}
use Rattle.basis.proofs.AmongLaws.{among-nil}
use Rattle.basis.proofs.Never.{never}
use native.Mathlib.Nat.{zero-add}
use Rattle.reply.specs.declared.Cause.{Cause}
use Rattle.reply.specs.declared.Refusal.TheVariants.{BadRequest}
use Rattle.reply.specs.Reply.{bare}
use Rattle.reply.specs.Outcome.{Outcome, refused, nothing, give, push}
use Rattle.emit.proofs.WriteLaws.{give-inv}
use Rattle.oneofs.specs.Fields.{real, synthetic, Oneof, oneof, is_real, Group, joining, groups_after, groups, opened_after, opened}
use Rattle.oneofs.specs.Fields.{real_count}
use Rattle.oneofs.proofs.IndexLaws.{reals_before, synthetics_before}

-- ---- what a word opens
data Opening : ℕ → Type 0 where
  made : Opening 1
  declares : Opening 2
  neither : {w : ℕ} → eqb w 1 ≡ false → eqb w 2 ≡ false → Opening w

opening : (w : ℕ) → Opening w
opening zero = neither refl refl
opening (suc zero) = made
opening (suc (suc zero)) = declares
opening (suc (suc (suc w))) = neither (ne_eqb (suc (suc (suc w))) 1 λ e. omega arith) (ne_eqb (suc (suc (suc w))) 2 λ e. omega arith)

opened-neither : (r s w : ℕ) (ws : List ℕ) → eqb w 1 ≡ false → eqb w 2 ≡ false → opened_after r s (w ∷ ws) ≡ opened_after r s ws
unfolding opened_after
opened-neither r s w ws q t = simp (opened_after, q, t)

-- ---- where a oneof lies
abbrev pub reals_with : Oneof → ℕ
reals_with (oneof k r s) = elim k [ real ↦ suc r | synthetic ↦ r ]

abbrev pub synthetics_with : Oneof → ℕ
synthetics_with (oneof k r s) = elim k [ real ↦ s | synthetic ↦ suc s ]

pub record Lies (r s reals synthetics : ℕ) (x : Oneof) : Type 0 where
  pub reals-from : r ≤ reals_before x
  pub synthetics-from : s ≤ synthetics_before x
  pub reals-to : reals_with x ≤ reals
  pub synthetics-to : synthetics_with x ≤ synthetics

pub record Earlier (x y : Oneof) : Type 0 where
  pub reals : reals_with x ≤ reals_before y
  pub synthetics : synthetics_with x ≤ synthetics_before y

abbrev pub synthetic_count : List ℕ → ℕ
synthetic_count ws = count (λ w. eqb w 1) ws

pub record Opens (r s : ℕ) (ws : List ℕ) (xs : List Oneof) : Type 0 where
  pub lie : (x : Oneof) → Among x xs → Lies r s (r + real_count ws) (s + synthetic_count ws) x
  pub ordered : Ordered Earlier xs
  pub many : length xs ≡ real_count ws + synthetic_count ws
  pub reals : count is_real xs ≡ real_count ws

-- x is opened first, and xs after it
module _
    (r s w : ℕ) (ws : List ℕ) (x : Oneof) (xs : List Oneof) (o : Opens (reals_with x) (synthetics_with x) ws xs)
    (a : r + real_count (w ∷ ws) ≡ reals_with x + real_count ws) (b : s + synthetic_count (w ∷ ws) ≡ synthetics_with x + synthetic_count ws)
    (c : reals_before x ≡ r) (d : synthetics_before x ≡ s) (h : r ≤ reals_with x) (h' : s ≤ synthetics_with x) where
  first-lies : (y : Oneof) → Among y (x ∷ xs) → Lies r s (r + real_count (w ∷ ws)) (s + synthetic_count (w ∷ ws)) y
  first-lies y here =
      record { reals-from = omega arith; synthetics-from = omega arith; reals-to = omega (arith, a); synthetics-to = omega (arith, b) }
  first-lies y (there m) =
      let l = o.lie y m in
      record {
        reals-from = omega (arith, l.reals-from);
        synthetics-from = omega (arith, l.synthetics-from);
        reals-to = omega (arith, a, l.reals-to);
        synthetics-to = omega (arith, b, l.synthetics-to);
      }

  opens-first : length (x ∷ xs) ≡ real_count (w ∷ ws) + synthetic_count (w ∷ ws) → count is_real (x ∷ xs) ≡ real_count (w ∷ ws)
      → Opens r s (w ∷ ws) (x ∷ xs)
  opens-first e f = record {
    lie = first-lies;
    ordered = next (λ y m. record { reals = (o.lie y m).reals-from; synthetics = (o.lie y m).synthetics-from }) o.ordered;
    many = e;
    reals = f;
  }

opens-word : (r s w : ℕ) (ws : List ℕ) → Opening w → ((r s : ℕ) → Opens r s ws (opened_after r s ws))
    → Opens r s (w ∷ ws) (opened_after r s (w ∷ ws))
unfolding opened_after
opens-word r s w ws made ih =
    let o = ih r (suc s) in
    opens-first r s 1 ws (oneof synthetic r s) _ o (omega arith) (omega arith) refl refl (omega arith) (omega arith)
    (omega (arith, o.many)) (omega (arith, o.reals))
opens-word r s w ws declares ih =
    let o = ih (suc r) s in
    opens-first r s 2 ws (oneof real r s) _ o (omega arith) (omega arith) refl refl (omega arith) (omega arith)
    (omega (arith, o.many)) (omega (arith, o.reals))
opens-word r s w ws (neither q t) ih =
    let o = ih r s in
    let none-real = zero-add (real_count ws) in
    let none_made = zero-add (synthetic_count ws) in
    rw (opened-neither r s w ws q t)
    (record {
      lie = rw (q, t, none-real, none_made) o.lie;
      ordered = o.ordered;
      many = rw (q, t, none-real, none_made) o.many;
      reals = rw (t, none-real) o.reals;
    })

opens-after : (r s : ℕ) (ws : List ℕ) → Opens r s ws (opened_after r s ws)
unfolding opened_after
opens-after r s [] = record { lie = λ x m. among-nil m; ordered = Ordered.none; many = refl; reals = refl }
opens-after r s (w ∷ ws) = opens-word r s w ws (opening w) λ r' s'. opens-after r' s' ws

module _ (ws : List ℕ) where
  pub opened-lies : (x : Oneof) → Among x (opened ws) → Lies 0 0 (real_count ws) (synthetic_count ws) x
  opened-lies = rw (zero-add (real_count ws), zero-add (synthetic_count ws)) at (opens-after 0 0 ws).lie

  pub opened-ordered : Ordered Earlier (opened ws)
  opened-ordered = (opens-after 0 0 ws).ordered

  pub opened-many : length (opened ws) ≡ real_count ws + synthetic_count ws
  opened-many = (opens-after 0 0 ws).many

  pub opened-reals : count is_real (opened ws) ≡ real_count ws
  opened-reals = (opens-after 0 0 ws).reals

-- of any two one is earlier, or they are one
pub either-earlier : {C A : Type 0} {R : A → A → Type 0} {x y : A} {xs : List A} → Ordered R xs → Among x xs → Among y xs
    → (x ≡ y → C) → (R x y → C) → (R y x → C) → C
either-earlier o here here same before behind = same refl
either-earlier {y} (next h o) here (there n) same before behind = before (h y n)
either-earlier {x} (next h o) (there m) here same before behind = behind (h x m)
either-earlier (next h o) (there m) (there n) same before behind = either-earlier o m n same before behind

-- ---- every group is one of them
record AllOf (P : Oneof → Type 0) (o : Outcome Group) : Type 0 where
  holds : (gs : List Group) → o ≡ give gs → (x : Oneof) → Among (Some x) gs → P x

module _ (P : Oneof → Type 0) where
  all-refused : (c : Cause) → AllOf P (refused c)
  all-refused c = record { holds = λ gs e. never cc }

  all-if : (b : Bool) {o o' : Outcome Group} → AllOf P o → AllOf P o' → AllOf P (elim b [ true ↦ o | false ↦ o' ])
  all-if true h h' = h
  all-if false h h' = h'

  all-unless : (b : Bool) (o : Outcome Group) {o' : Outcome Group} → b ≡ false → AllOf P o' → AllOf P (elim b [ true ↦ o | false ↦ o' ])
  all-unless true o e h = never cc
  all-unless false o e h = h

  first-or : (g : Group) (l : List Group) (x : Oneof) → Among (Some x) (g ∷ l) → (g ≡ Some x → P x) → (Among (Some x) l → P x) → P x
  first-or g l x here p k = p refl
  first-or g l x (there m) p k = k m

  all_push : (g : Group) (o : Outcome Group) → ((x : Oneof) → g ≡ Some x → P x) → AllOf P o → AllOf P (push (g ∷ []) o)
  all_push g (refused c) p h = all-refused c
  all_push g nothing p h = record { holds = λ gs e. never cc }
  all_push g (give l) p h = record { holds = λ gs e x m. first-or g l x (rw (← (give-inv e)) at m) (p x) (h.holds l refl x) }

  all-joining : (member : Group) (o : Outcome Group) → ((x : Oneof) → member ≡ Some x → P x) → AllOf P o → AllOf P (joining member o)
  all-joining None o p h = all-refused (bare BadRequest)
  all-joining (Some x) o p h = all_push (Some x) o p h

  abbrev Given : (r s : ℕ) (ws : List ℕ) → Type 0
  Given r s ws = (member : Group) → ((x : Oneof) → member ≡ Some x → P x) → ((x : Oneof) → Among x (opened_after r s ws) → P x)
      → AllOf P (groups_after r s member ws)

  all-word : (r s w : ℕ) (ws : List ℕ) → Opening w → ((r s : ℕ) → Given r s ws) → Given r s (w ∷ ws)
  unfolding groups_after opened_after
  all-word r s w ws made ih member p h =
      all_push (Some (oneof synthetic r s)) _ (λ x e. let y : oneof synthetic r s ≡ x = cc in rw (← y) (h _ here))
      (ih r (suc s) None (λ x e. never cc) (λ x m. h x (there m)))
  all-word r s w ws declares ih member p h =
      ih (suc r) s (Some (oneof real r s)) (λ x e. let y : oneof real r s ≡ x = cc in rw (← y) (h _ here)) (λ x m. h x (there m))
  all-word r s w ws (neither q t) ih member p h =
      let rest : (x : Oneof) → Among x (opened_after r s ws) → P x = rw (opened-neither r s w ws q t) at h in
      all-if (eqb w 0) (all_push None _ (λ x e. never cc) (ih r s None (λ x e. never cc) rest))
      (all-unless (eqb w 1) _ q
      (all-unless (eqb w 2) _ t (all-if (eqb w 3) (all-joining member _ p (ih r s member p rest)) (all-refused (bare BadRequest)))))

  all-groups : (r s : ℕ) (ws : List ℕ) → Given r s ws
  unfolding groups_after opened_after
  all-groups r s [] member p h = record { holds = λ gs e x m. among-nil (rw (← (give-inv e)) at m) }
  all-groups r s (w ∷ ws) member p h = all-word r s w ws (opening w) (λ r' s'. all-groups r' s' ws) member p h

pub group-opened : (ws : List ℕ) (gs : List Group) → groups ws ≡ give gs → (x : Oneof) → Among (Some x) gs → Among x (opened ws)
group-opened ws gs e = (all-groups (λ x. Among x (opened ws)) 0 0 ws None (λ x q. never cc) (λ x m. m)).holds gs e
