-- The rows of a tree, followed by the keys of a name's declarations, come to the row that these declarations lead to, whichever of them
-- join their records.
--
--                kept joins d b ==  what was found before a record that d lists, where that still counts
--   best_after joins b l d ds t ==  the best row after the records t at the level l, b being the one before, by the declarations d and then ds
--                    Gone l b f <-> after records at the level l the best row is b, and l levels are still open
--
-- Assumes nothing.
use Rattle.std.specs.Prelude.{◌≡◌, refl, Bool, true, false, List, [], ◌∷◌, ◌++◌, map, ℕ, suc, ◌+◌, ◌≤◌, ◌<◌, ltb, length, Option, None, Some}
use Rattle.basis.specs.Kit.{sym, ap, ◌∙◌}
use Rattle.basis.specs.First.{only_if}
use mathlib.Core.Path.{subst}
use Rattle.basis.proofs.Kit.{arith, eq-eqb, ne_eqb, lt-ltb, le-ltb}
use Rattle.sheet.specs.declared.declaration.Declaration.{Declaration}
use Rattle.entries.specs.declared.Entry.{Entry}
use Rattle.entries.specs.declared.Row.{Row}
use Rattle.entries.specs.Tree.{Tree, end, one, held, append, row, rows}
use Rattle.following.specs.Reached.{is_by, listed_by, inside_after, joined, last_after, inside, reached}
use Rattle.following.specs.inner.Keys.{key_of, key_at, keys_from}
use Rattle.following.specs.inner.Following.{Followed, nothing_yet, is_at, step, after, by_key, at_level, step_of, follow, followed}

pub record Gone (level : ℕ) (b : Option Row) (f : Followed) : Type 0 where
  pub best : f.best ≡ b
  pub still : level ≤ f.matched

-- ---- the rows, one after the other
module _ (ks : List ℕ) (n : ℕ) where
  followed-append : (f : Followed) (xs ys : List Row) → followed ks n f (xs ++ ys) ≡ followed ks n (followed ks n f xs) ys
  followed-append f [] ys = refl
  followed-append f (x ∷ xs) ys = followed-append (follow ks n f x) xs ys

  -- a row deeper than what is open changes nothing
  follow-deeper : (f : Followed) (x : Row) → f.matched < x.level → follow ks n f x ≡ f
  unfolding follow step_of
  follow-deeper f x h = simp (step_of, lt-ltb f.matched x.level h)

  followed-deeper : (f : Followed) (l : ℕ) (t : Tree) → f.matched < l → followed ks n f (rows l t) ≡ f
  followed-deeper f l end h = refl
  followed-deeper f l (one e t) h =
      ap (λ (g : Followed). followed ks n g (rows l t)) (follow-deeper f (row l e) h) ∙ followed-deeper f l t h
  followed-deeper f l (held e i t) h =
      ap (λ (g : Followed). followed ks n g (rows (suc l) i ++ rows l t)) (follow-deeper f (row l e) h)
      ∙ followed-append f (rows (suc l) i) (rows l t)
      ∙ ap (λ (g : Followed). followed ks n g (rows l t)) (followed-deeper f (suc l) i (omega arith)) ∙ followed-deeper f l t h

-- no keys, no row
follow-none : (ks : List ℕ) (f : Followed) (x : Row) → (follow ks 0 f x).best ≡ f.best
unfolding follow step_of
follow-none ks f x = go (ltb f.matched x.level) refl
  where
    go : (b : Bool) → ltb f.matched x.level ≡ b
        → (after (step_of ks 0 f.matched true x.level x.entry.by) f.best x).best ≡ f.best
    go true q = simp (step_of, q)
    go false q = simp (step_of, q, at_level, le-ltb x.level 0 (omega arith))

pub followed-none : (ks : List ℕ) (f : Followed) (xs : List Row) → (followed ks 0 f xs).best ≡ f.best
followed-none ks f [] = refl
followed-none ks f (x ∷ xs) = followed-none ks (follow ks 0 f x) xs ∙ follow-none ks f x

-- ---- a row at the level of the declaration d, whose key stands there
by-at : (d : Declaration) (y : Option Declaration) → is_at d.name.from y ≡ is_by d y
unfolding is_at
by-at d None = refl
by-at d (Some e) = refl

module _ (joins : Declaration → Bool) where
  abbrev kept : Declaration → Option Row → Option Row
  kept d b = only_if (joins d) b None

  module _ (ks : List ℕ) (n l : ℕ) (d : Declaration) (k : key_at ks l ≡ key_of joins d) (f : Followed) (o : l ≤ f.matched) (e : Entry) where
    by-key : l < n → follow ks n f (row l e) ≡ after (by_key ks n true l e.by) f.best (row l e)
    unfolding follow step_of
    by-key h = simp (step_of, le-ltb f.matched l o, at_level, lt-ltb l n h)

    step_other : l < n → is_by d e.by ≡ false → follow ks n f (row l e) ≡ record { matched = l; best = f.best }
    step_other h z = by-key h ∙ simp (by_key, k, by-at d e.by, z)

    step-last : l + 1 ≡ n → is_by d e.by ≡ true → follow ks n f (row l e) ≡ record { matched = l; best = Some (row l e) }
    step-last h z = by-key (omega arith) ∙ simp (by_key, k, by-at d e.by, z, eq-eqb (l + 1) n h)

    step_in : l + 1 < n → is_by d e.by ≡ true → follow ks n f (row l e) ≡ record { matched = l + 1; best = kept d f.best }
    step_in h z = by-key (omega arith) ∙ simp (by_key, k, by-at d e.by, z, ne_eqb (l + 1) n (λ q. omega arith)) (joining (joins d))
      where
        joining : (j : Bool) → after (step (l + 1) (only_if j true false) false) f.best (row l e)
            ≡ record { matched = l + 1; best = only_if j f.best None }
        joining true = refl
        joining false = refl

  -- ---- the best row after records
  abbrev best_after : Option Row → (level : ℕ) → Declaration → List Declaration → Tree → Option Row
  best_after b l d ds end = b
  best_after b l d [] (one e t) = best_after (only_if (is_by d e.by) (Some (row l e)) b) l d [] t
  best_after b l d [] (held e i t) = best_after (only_if (is_by d e.by) (Some (row l e)) b) l d [] t
  best_after b l d (o ∷ ds) (one e t) = best_after (only_if (is_by d e.by) (kept d b) b) l d (o ∷ ds) t
  best_after b l d (o ∷ ds) (held e i t) = best_after (only_if (is_by d e.by) (best_after (kept d b) (suc l) o ds i) b) l d (o ∷ ds) t

  after-append : (b : Option Row) (l : ℕ) (d : Declaration) (ds : List Declaration) (t u : Tree)
      → best_after b l d ds (append t u) ≡ best_after (best_after b l d ds t) l d ds u
  after-append b l d ds end u = refl
  after-append b l d [] (one e t) u = after-append (only_if (is_by d e.by) (Some (row l e)) b) l d [] t u
  after-append b l d [] (held e i t) u = after-append (only_if (is_by d e.by) (Some (row l e)) b) l d [] t u
  after-append b l d (o ∷ ds) (one e t) u = after-append (only_if (is_by d e.by) (kept d b) b) l d (o ∷ ds) t u
  after-append b l d (o ∷ ds) (held e i t) u = after-append (only_if (is_by d e.by) (best_after (kept d b) (suc l) o ds i) b) l d (o ∷ ds) t u

  -- of the last declaration the last record
  module _ (l : ℕ) (d : Declaration) where
    last_one : (b : Bool) (e : Entry) (o : Option Row) (t : Tree)
        → last_after o l (elim b [ true ↦ one e t | false ↦ t ]) ≡ last_after (only_if b (Some (row l e)) o) l t
    last_one true e o t = refl
    last_one false e o t = refl

    last-held : (b : Bool) (e : Entry) (i : Tree) (o : Option Row) (t : Tree)
        → last_after o l (elim b [ true ↦ held e i t | false ↦ t ]) ≡ last_after (only_if b (Some (row l e)) o) l t
    last-held true e i o t = refl
    last-held false e i o t = refl

    after_last : (o : Option Row) (t : Tree) → best_after o l d [] t ≡ last_after o l (listed_by d t)
    after_last o end = refl
    after_last o (one e t) =
        after_last (only_if (is_by d e.by) (Some (row l e)) o) t ∙ sym (last_one (is_by d e.by) e o (listed_by d t))
    after_last o (held e i t) =
        after_last (only_if (is_by d e.by) (Some (row l e)) o) t ∙ sym (last-held (is_by d e.by) e i o (listed_by d t))

  -- of one before it what the last record holds,
  module _ (l : ℕ) (d o : Declaration) (ds : List Declaration) where
    abbrev further : Option Row → Tree → Option Row
    further b i = best_after b (suc l) o ds i

    abbrev here : Option Row → Tree → Option Row
    here b t = best_after b l d (o ∷ ds) t

    module _ (q : joins d ≡ false) (e : Entry) (i t u : Tree) (n : (i : Tree) → here (further None i) t ≡ further None (inside_after i u)) where
      anew-one : (c : Bool) → here (only_if c (kept d (further None i)) (further None i)) t
          ≡ further None (inside_after i (elim c [ true ↦ one e u | false ↦ u ]))
      anew-one true = ap (λ (j : Bool). here (only_if j (further None i) None) t) q ∙ n end
      anew-one false = n i

      anew-held : (j : Tree) (c : Bool) → here (only_if c (further (kept d (further None i)) j) (further None i)) t
          ≡ further None (inside_after i (elim c [ true ↦ held e j u | false ↦ u ]))
      anew-held j true = ap (λ (k : Bool). here (further (only_if k (further None i) None) j) t) q ∙ n j
      anew-held j false = n i

    anew : joins d ≡ false → (i t : Tree) → here (further None i) t ≡ further None (inside_after i (listed_by d t))
    anew q i end = refl
    anew q i (one e t) = anew-one q e i t (listed_by d t) (λ k. anew q k t) (is_by d e.by)
    anew q i (held e j t) = anew-held q e i t (listed_by d t) (λ k. anew q k t) j (is_by d e.by)

    -- or what all of them hold
    module _ (q : joins d ≡ true) (e : Entry) (b : Option Row) (t u : Tree) (n : (b : Option Row) → here b t ≡ further b (joined u)) where
      joined-one : (c : Bool) → here (only_if c (kept d b) b) t ≡ further b (joined (elim c [ true ↦ one e u | false ↦ u ]))
      joined-one true = ap (λ (j : Bool). here (only_if j b None) t) q ∙ n b
      joined-one false = n b

      joined-held : (i : Tree) (c : Bool)
          → here (only_if c (further (kept d b) i) b) t ≡ further b (joined (elim c [ true ↦ held e i u | false ↦ u ]))
      joined-held i true =
          ap (λ (j : Bool). here (further (only_if j b None) i) t) q ∙ n (further b i) ∙ sym (after-append b (suc l) o ds i (joined u))
      joined-held i false = n b

    all-joined : joins d ≡ true → (b : Option Row) (t : Tree) → here b t ≡ further b (joined (listed_by d t))
    all-joined q b end = refl
    all-joined q b (one e t) = joined-one q e b t (listed_by d t) (λ c. all-joined q c t) (is_by d e.by)
    all-joined q b (held e i t) = joined-held q e b t (listed_by d t) (λ c. all-joined q c t) i (is_by d e.by)

    after-inside : (t : Tree) → here None t ≡ further None (inside joins d t)
    after-inside t = go (joins d) refl
      where
        go : (b : Bool) → joins d ≡ b → here None t ≡ further None (inside joins d t)
        go true q = all-joined q None t ∙ simp (inside, q)
        go false q = anew q end t ∙ simp (inside, q)

  after-reached : (l : ℕ) (d : Declaration) (ds : List Declaration) (t : Tree)
      → best_after None l d ds t ≡ reached joins l (d ∷ ds) t
  after-reached l d [] t = after_last l d None t
  after-reached l d (o ∷ ds) t = after-inside l d o ds t ∙ after-reached (suc l) o ds (inside joins d t)

  -- ---- the rows of records, followed
  module _ (ks : List ℕ) (n : ℕ) where
    abbrev Goes : (level : ℕ) → Declaration → List Declaration → Tree → Type 0
    Goes l d ds t = (f : Followed) → l ≤ f.matched → Gone l (best_after f.best l d ds t) (followed ks n f (rows l t))

    goes_on : (l : ℕ) (d : Declaration) (ds : List Declaration) (b : Option Row) (f g : Followed) (t : Tree) → f ≡ g → l ≤ g.matched
        → g.best ≡ b
        → Goes l d ds t → Gone l (best_after b l d ds t) (followed ks n f (rows l t))
    goes_on l d ds b f g t e o q r =
        subst (λ (x : Followed). Gone l (best_after b l d ds t) (followed ks n x (rows l t))) (sym e)
        (subst (λ (x : Option Row). Gone l (best_after x l d ds t) (followed ks n g (rows l t))) q (r g o))

    goes_over : (l : ℕ) (d : Declaration) (ds : List Declaration) (b : Option Row) (f g : Followed) (i t : Tree)
        → followed ks n f (rows (suc l) i) ≡ g → l ≤ g.matched → g.best ≡ b → Goes l d ds t
        → Gone l (best_after b l d ds t) (followed ks n f (rows (suc l) i ++ rows l t))
    goes_over l d ds b f g i t e o q r =
        subst (Gone l (best_after b l d ds t)) (sym (followed-append ks n f (rows (suc l) i) (rows l t)))
        (goes_on l d ds b (followed ks n f (rows (suc l) i)) g t e o q r)

    -- a record's inside that is not followed
    goes-past : (l : ℕ) (d : Declaration) (ds : List Declaration) (f g : Followed) (i t : Tree) → f ≡ g → g.matched ≡ l → Goes l d ds t
        → Gone l (best_after g.best l d ds t) (followed ks n f (rows (suc l) i ++ rows l t))
    goes-past l d ds f g i t e o r =
        goes_over l d ds g.best f g i t
        (ap (λ (x : Followed). followed ks n x (rows (suc l) i)) e ∙ followed-deeper ks n g (suc l) i (omega arith)) (omega arith) refl r

    module _ (l : ℕ) (d : Declaration) (k : key_at ks l ≡ key_of joins d) (e : Entry) (t : Tree) where
      module _ (h : l + 1 ≡ n) (r : Goes l d [] t) where
        last-row : (f : Followed) → l ≤ f.matched → (c : Bool) → is_by d e.by ≡ c
            → follow ks n f (row l e) ≡ record { matched = l; best = only_if c (Some (row l e)) f.best }
        last-row f o true z = step-last ks n l d k f o e h z
        last-row f o false z = step_other ks n l d k f o e (omega arith) z

        goes-last-one : Goes l d [] (one e t)
        goes-last-one f o = goes_on l d [] _ (follow ks n f (row l e)) _ t (last-row f o (is_by d e.by) refl) (omega arith) refl r

        goes-last-held : (i : Tree) → Goes l d [] (held e i t)
        goes-last-held i f o = goes-past l d [] (follow ks n f (row l e)) _ i t (last-row f o (is_by d e.by) refl) refl r

      module _ (h : l + 1 < n) (m : Declaration) (ds : List Declaration) (r : Goes l d (m ∷ ds) t) (f : Followed) (o : l ≤ f.matched) where
        by_one : (c : Bool) → is_by d e.by ≡ c
            → Gone l (best_after (only_if c (kept d f.best) f.best) l d (m ∷ ds) t) (followed ks n (follow ks n f (row l e)) (rows l t))
        by_one true z = goes_on l d (m ∷ ds) _ (follow ks n f (row l e)) _ t (step_in ks n l d k f o e h z) (omega arith) refl r
        by_one false z =
            goes_on l d (m ∷ ds) _ (follow ks n f (row l e)) _ t (step_other ks n l d k f o e (omega arith) z) (omega arith) refl r

        goes_one : Gone l (best_after f.best l d (m ∷ ds) (one e t)) (followed ks n f (rows l (one e t)))
        goes_one = by_one (is_by d e.by) refl

        module _ (i : Tree) (s : Goes (suc l) m ds i) where
          by-held : (c : Bool) → is_by d e.by ≡ c
              → Gone l (best_after (only_if c (best_after (kept d f.best) (suc l) m ds i) f.best) l d (m ∷ ds) t)
              (followed ks n (follow ks n f (row l e)) (rows (suc l) i ++ rows l t))
          by-held true z =
              let g = goes_on (suc l) m ds _ (follow ks n f (row l e)) _ i (step_in ks n l d k f o e h z) (omega arith) refl s in
              goes_over l d (m ∷ ds) _ (follow ks n f (row l e)) _ i t refl (omega (arith, g.still)) g.best r
          by-held false z = goes-past l d (m ∷ ds) (follow ks n f (row l e)) _ i t (step_other ks n l d k f o e (omega arith) z) refl r

          goes-held : Gone l (best_after f.best l d (m ∷ ds) (held e i t)) (followed ks n f (rows l (held e i t)))
          goes-held = by-held (is_by d e.by) refl

    goes : (l : ℕ) (d : Declaration) (ds : List Declaration) → keys_from ks l (length (d ∷ ds)) ≡ map (key_of joins) (d ∷ ds)
        → n ≡ l + length (d ∷ ds) → (t : Tree) → Goes l d ds t
    goes l d ds k h end = λ f o. record { best = refl; still = o }
    goes l d [] k h (one e t) = goes-last-one l d (cc) e t (omega arith) (goes l d [] k h t)
    goes l d [] k h (held e i t) = goes-last-held l d (cc) e t (omega arith) (goes l d [] k h t) i
    goes l d (m ∷ ds) k h (one e t) = goes_one l d (cc) e t (omega arith) m ds (goes l d (m ∷ ds) k h t)
    goes l d (m ∷ ds) k h (held e i t) =
        λ f o. goes-held l d (cc) e t (omega arith) m ds (goes l d (m ∷ ds) k h t) f o i (goes (suc l) m ds (cc) (omega arith) i)

  -- ---- the whole
  pub followed-reached : (ks : List ℕ) (ds : List Declaration) (n : ℕ) (t : Tree) → n ≡ 0 + length ds
      → keys_from ks 0 (length ds) ≡ map (key_of joins) ds
      → (followed ks n nothing_yet (rows 0 t)).best ≡ reached joins 0 ds t
  followed-reached ks [] n t h k = rw h (followed-none ks nothing_yet (rows 0 t))
  followed-reached ks (d ∷ ds) n t h k = (goes ks n 0 d ds k h t nothing_yet (omega arith)).best ∙ after-reached 0 d ds t
