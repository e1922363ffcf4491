-- The i-th of a list of declarations: of lists put together, of lists that differ in the scopes alone, and with what is written into the
-- room.
--
--         Seen ==  a full name, and what code has of its bearer
--       seen b ==  a declaration, as code sees it
--   Same xs ys <-> code sees the same in both lists
--       dotted ==  the text that is a dot
--
-- Assumes nothing.
use Rattle.std.specs.Prelude.{◌≡◌, refl, List, [], ◌∷◌, ◌++◌, map, ℕ, zero, suc, ◌+◌, ◌-◌, ◌≤◌, ◌<◌, length, take, drop, Result, Ok, Err}
use Rattle.basis.specs.Kit.{sym, ap, ◌∙◌, sets}
use Rattle.basis.proofs.Kit.{arith, add-one}
use Rattle.basis.proofs.Never.{never}
use mathlib.Core.List.{append_assoc}
use lib.ListN.{length-append, length-set}
use lib.Seq.{take-take, take-append_seam, take_at, take-suc-set, sets-eq, length-sets, length-take-le}
use Rattle.octets.specs.inner.Laid.{Laid}
use Rattle.sheet.specs.Tree as tree
use Rattle.sheet.specs.Tree.{Items, File}
use Rattle.scope.specs.Scope.{Scope, file_scope}
use Rattle.names.specs.Names.{Named, inside, file_front, declared_in, declared_by}
use Rattle.field.specs.Leaf.{text}
use Rattle.roster.specs.declared.Bearer.{Bearer}
use Rattle.roster.specs.declared.Nth.{Nth}
use Rattle.roster.specs.inner.Nth.{borne, shown, nth, name_or, Spelt, Finds}

-- ---- lists put together
pub nth_past : (xs ys : List Named) (i k : ℕ) → nth xs i ≡ Err k → nth (xs ++ ys) i ≡ nth ys k
nth_past [] ys i k p = let u : i ≡ k = cc in rw u
nth_past (x ∷ xs) ys zero k p = never cc
nth_past (x ∷ xs) ys (suc i) k p = nth_past xs ys i k p

pub nth-found : (xs ys : List Named) (i : ℕ) (n : Nth) → nth xs i ≡ Ok n → nth (xs ++ ys) i ≡ Ok n
nth-found [] ys i n p = never cc
nth-found (x ∷ xs) ys zero n p = p
nth-found (x ∷ xs) ys (suc i) n p = nth-found xs ys i n p

module _ (q : List ℕ) where
  pub name-past : (xs ys : List Named) (i k : ℕ) → nth xs i ≡ Err k → name_or q (xs ++ ys) i ≡ name_or q ys k
  name-past [] ys i k p = let u : i ≡ k = cc in rw u
  name-past (x ∷ xs) ys zero k p = never cc
  name-past (x ∷ xs) ys (suc i) k p = name-past xs ys i k p

  pub name-none : (xs : List Named) (i k : ℕ) → nth xs i ≡ Err k → name_or q xs i ≡ q
  name-none [] i k p = refl
  name-none (x ∷ xs) zero k p = never cc
  name-none (x ∷ xs) (suc i) k p = name-none xs i k p

  pub name-found : (xs ys : List Named) (i : ℕ) (n : Nth) → nth xs i ≡ Ok n → name_or q (xs ++ ys) i ≡ name_or q xs i
  name-found [] ys i n p = never cc
  name-found (x ∷ xs) ys zero n p = refl
  name-found (x ∷ xs) ys (suc i) n p = name-found xs ys i n p

-- ---- lists that differ in the scopes alone
pub record Seen : Type 0 where
  pub name : List ℕ
  pub bearer : Bearer

abbrev pub seen : Named → Seen
seen b = record { name = b.name; bearer = shown b.what }

pub record Same (xs ys : List Named) : Type 0 where
  pub same : map seen xs ≡ map seen ys

abbrev nth_seen : List Seen → ℕ → Result Nth ℕ
nth_seen [] i = Err i
nth_seen (b ∷ bs) zero = Ok (borne b.bearer (length b.name))
nth_seen (b ∷ bs) (suc i) = nth_seen bs i

abbrev name_seen : List ℕ → List Seen → ℕ → List ℕ
name_seen q [] i = q
name_seen q (b ∷ bs) zero = b.name
name_seen q (b ∷ bs) (suc i) = name_seen q bs i

nth-seen : (bs : List Named) (i : ℕ) → nth bs i ≡ nth_seen (map seen bs) i
nth-seen [] i = refl
nth-seen (b ∷ bs) zero = refl
nth-seen (b ∷ bs) (suc i) = nth-seen bs i

name-seen : (q : List ℕ) (bs : List Named) (i : ℕ) → name_or q bs i ≡ name_seen q (map seen bs) i
name-seen q [] i = refl
name-seen q (b ∷ bs) zero = refl
name-seen q (b ∷ bs) (suc i) = name-seen q bs i

module _ {xs ys : List Named} (e : Same xs ys) where
  nth-same : (i : ℕ) → nth xs i ≡ nth ys i
  nth-same i = nth-seen xs i ∙ ap (λ (l : List Seen). nth_seen l i) e.same ∙ sym (nth-seen ys i)

  name-same : (q : List ℕ) (i : ℕ) → name_or q xs i ≡ name_or q ys i
  name-same q i = name-seen q xs i ∙ ap (λ (l : List Seen). name_seen q l i) e.same ∙ sym (name-seen q ys i)

  pub finds-same : {i at : ℕ} {before after : List ℕ} {r : Result Nth ℕ} → Finds xs i at before after r → Finds ys i at before after r
  finds-same {i} {at} {before} {after} f = record {
    is = f.is ∙ nth-same i;
    sized = f.sized;
    name = rw (name-same (take at before) i) at f.name;
  }

pub same_refl : (xs : List Named) → Same xs xs
same_refl xs = record { same = refl }

pub same-trans : {xs ys zs : List Named} → Same xs ys → Same ys zs → Same xs zs
same-trans p q = record { same = p.same ∙ q.same }

seen-append : (xs ys : List Named) → map seen (xs ++ ys) ≡ map seen xs ++ map seen ys
seen-append [] ys = refl
seen-append (x ∷ xs) ys = ap (λ (l : List Seen). seen x ∷ l) (seen-append xs ys)

pub same-append : {xs ys zs ws : List Named} → Same xs ys → Same zs ws → Same (xs ++ zs) (ys ++ ws)
same-append {xs} {ys} {zs} {ws} p q = record { same = rw (seen-append xs zs, seen-append ys ws, p.same, q.same) }

pub same-cons : {x y : Named} {xs ys : List Named} → seen x ≡ seen y → Same xs ys → Same (x ∷ xs) (y ∷ ys)
same-cons p q = record { same = rw (p, q.same) }

-- what is declared does not depend on the scope, as code sees it
pub scope-same : (s f : List ℕ) (c d : Scope) (i : Items) → Same (declared_in s f c i) (declared_in s f d i)
scope-same s f c d tree.none = record { same = refl }
scope-same s f c d (tree.message n b i r) =
    same-cons refl (same-append (scope-same s (inside (f ++ text s n)) _ _ i) (scope-same s f c d r))
scope-same s f c d (tree.extension x r) = same-cons refl (scope-same s f c d r)
scope-same s f c d (tree.enumeration n b vs r) = same-cons refl (scope-same s f c d r)
scope-same s f c d (tree.field x r) = scope-same s f c d r

pub index_same : (s : List ℕ) (k j : ℕ) (fs : List File) → Same (declared_by s k fs) (declared_by s j fs)
index_same s k j [] = record { same = refl }
index_same s k j (f ∷ fs) =
    same-append (scope-same s (file_front (text s f.package_name)) (file_scope k f) (file_scope j f) f.items)
    (index_same s (k + 1) (j + 1) fs)

-- ---- nothing, and one
pub take-front : (n : ℕ) (l : List ℕ) → take (length (take n l)) l ≡ take n l
take-front zero l = refl
take-front (suc n) [] = refl
take-front (suc n) (x ∷ l) = ap (λ (m : List ℕ). x ∷ m) (take-front n l)

module _ (bs : List Named) (i at : ℕ) (room : List ℕ) where
  pub finds-none : bs ≡ [] → Finds bs i at room room (Err i)
  finds-none p = rw p (record { is = refl; sized = refl; name = take-front at room })

  pub finds_past : (b : Named) → bs ≡ b ∷ [] → (i ≡ 0 → ⊥) → Finds bs i at room room (Err (i - 1))
  finds_past b p h = rw p (go i h)
    where
      go : (j : ℕ) → (j ≡ 0 → ⊥) → Finds (b ∷ []) j at room room (Err (j - 1))
      go zero h = absurd (h refl)
      go (suc j) h =
          let u : suc j - 1 ≡ j = omega arith in
          record { is = rw u; sized = refl; name = take-front at room }

  pub finds-first : (b : Named) (cs : List Named) → bs ≡ b ∷ cs → i ≡ 0
      → (name after : List ℕ) (r : ℕ) → b.name ≡ take at room ++ name → Spelt room at name after r
      → Finds bs i at room after (Ok (borne (shown b.what) r))
  finds-first b cs p z name after r q k =
      rw (p, z) (record {
        is = rw (q, k.next);
        sized = k.sized;
        name = rw (q, ← k.next) k.front;
      })

-- ---- what stands in the room
module _ (before : List ℕ) (at : ℕ) (name after : List ℕ) (r : ℕ) where
  pub laid-spelt : at + length name ≤ length before → Laid before at name after r → Spelt before at name after r
  laid-spelt h k =
      let l : length (take at before) ≡ at = length-take-le at before (omega arith) in
      let n : r ≡ length (take at before ++ name) = k.next ∙ sym (length-append (take at before) name ∙ rw l) in
      record {
        next = n;
        sized = rw k.left (length-sets before at name);
        front = rw (k.left, sets-eq name before at h) (take_at (take at before ++ name) (drop (at + length name) before) r (sym n));
      }

  pub spelt-length : at ≤ length before → Spelt before at name after r → r ≡ at + length name
  spelt-length h k = k.next ∙ length-append (take at before) name ∙ rw (length-take-le at before h)

-- a name that is lengthened by a dot
abbrev pub dotted : List ℕ
dotted = inside []

pub spelt-inside : (before : List ℕ) (at : ℕ) (name mid after : List ℕ) (r : ℕ) → Spelt before at name mid r → r < length before
    → after ≡ sets mid r dotted → Spelt before at (inside name) after (r + 1)
spelt-inside before at name mid after r k h p =
    let u : r + 1 ≡ suc r = add-one r in
    let l : r < length mid = omega (arith, k.sized) in
    let f : take (r + 1) after ≡ take at before ++ inside name =
    rw (p, u, take-suc-set mid r _ l, k.front) (append_assoc (take at before) name dotted) in
    record {
      next = rw (← append_assoc (take at before) name dotted, length-append (take at before ++ name) dotted, ← k.next);
      sized = rw (p, length-set mid r _) k.sized;
      front = f;
    }

-- ---- a search that goes on behind what was written: where it finds none, what stood there before stays
name-shorter : (q y after : List ℕ) (xs : List Named) (i : ℕ)
    → take (length (name_or (q ++ y) xs i)) after ≡ name_or (q ++ y) xs i → take (length (name_or q xs i)) after ≡ name_or q xs i
name-shorter q y after [] i p =
    sym (take-take (length q) (length (q ++ y)) after (rw (length-append q y) (omega arith))) ∙ rw p (take-append_seam q y)
name-shorter q y after (x ∷ xs) zero p = p
name-shorter q y after (x ∷ xs) (suc i) p = name-shorter q y after xs i p

pub finds-behind : (xs : List Named) (i at next : ℕ) (before name mid after : List ℕ) (r : Result Nth ℕ)
    → Spelt before at name mid next → Finds xs i next mid after r → Finds xs i at before after r
finds-behind xs i at next before name mid after r k f = record {
  is = f.is;
  sized = f.sized ∙ k.sized;
  name = name-shorter (take at before) name after xs i (rw k.front at f.name);
}

-- one further on, behind the first
pub finds-suc : (b : Named) (xs : List Named) (i at : ℕ) (before after : List ℕ) (r : Result Nth ℕ) → (i ≡ 0 → ⊥)
    → Finds xs (i - 1) at before after r → Finds (b ∷ xs) i at before after r
finds-suc b xs zero at before after r h f = absurd (h refl)
finds-suc b xs (suc i) at before after r h f =
    let u : suc i - 1 ≡ i = omega arith in
    record { is = rw u at f.is; sized = f.sized; name = rw u at f.name }
