-- What a scope declares itself, and what the messages declare that names lead to: all of it is among what the scope declares at every
-- depth.
--
--        named t w ==  w, with the full name t
--    Holds s c n w <-> the scope c itself declares w under the name n
--   Reach s ns c d <-> the names ns lead from the scope c by messages to the scope d, each any one of its name
--    Under s f c b <-> b is among what the scope c declares at every depth, f standing before the full names
--
-- Assumes nothing.
use Rattle.std.specs.Prelude.{◌≡◌, List, [], ◌∷◌, ◌++◌, ℕ}
use Rattle.basis.specs.Among.{Among, here, there}
use Rattle.basis.proofs.AmongLaws.{among-nil, among-append-left, among-append-right}
use Rattle.field.specs.Leaf.{text}
use Rattle.path.specs.Path.{Name, Path, spell}
use Rattle.sheet.specs.declared.declaration.Declaration.{Declaration}
use Rattle.sheet.specs.Tree as tree
use Rattle.sheet.specs.Tree.{Items}
use Rattle.sheet.specs.Members.{Message, Enumeration, messages_of, enums_of, extensions_of}
use Rattle.scope.specs.Scope.{Scope, message_scope}
use Rattle.names.specs.Names.{What, message, enumeration, extension, Named, inside, declared_in}
use Rattle.finds.proofs.Spelling.{front_of, inside-front}

abbrev pub named : List ℕ → What → Named
named t w = record { name = t; what = w }

module _ (s : List ℕ) where
  pub data Holds (c : Scope) (n : Name) : What → Type 0 where
    message-of : (m : Message) → Among m (messages_of c.items) → text s m.name ≡ n → Holds c n (message (message_scope c m))
    enum-of : (e : Enumeration) → Among e (enums_of c.items) → text s e.name ≡ n → Holds c n (enumeration e)
    extension-of : (d : Declaration) → Among d (extensions_of c.items) → text s d.name ≡ n → Holds c n (extension d)

  pub data Reach : Path → Scope → Scope → Type 0 where
    stays : {c : Scope} → Reach [] c c
    enters : {n : Name} {ns : Path} {c d : Scope} (m : Message) → Among m (messages_of c.items) → text s m.name ≡ n
        → Reach ns (message_scope c m) d → Reach (n ∷ ns) c d

  -- ---- what a scope itself declares is among all that it declares
  module _ (f : List ℕ) (c : Scope) where
    message-items : (m : Message) (i : Items) → Among m (messages_of i)
        → Among (named (f ++ text s m.name) (message (message_scope c m))) (declared_in s f c i)
    message-items m tree.none k = among-nil k
    message-items m (tree.message n b i r) here = here
    message-items m (tree.message n b i r) (there k) =
        there (among-append-right (declared_in s (inside (f ++ text s n)) _ i) (message-items m r k))
    message-items m (tree.extension d r) k = there (message-items m r k)
    message-items m (tree.enumeration n b vs r) k = there (message-items m r k)
    message-items m (tree.field d r) k = message-items m r k

    enum-items : (e : Enumeration) (i : Items) → Among e (enums_of i)
        → Among (named (f ++ text s e.name) (enumeration e)) (declared_in s f c i)
    enum-items e tree.none k = among-nil k
    enum-items e (tree.message n b i r) k = there (among-append-right (declared_in s (inside (f ++ text s n)) _ i) (enum-items e r k))
    enum-items e (tree.extension d r) k = there (enum-items e r k)
    enum-items e (tree.enumeration n b vs r) here = here
    enum-items e (tree.enumeration n b vs r) (there k) = there (enum-items e r k)
    enum-items e (tree.field d r) k = enum-items e r k

    extension-items : (d : Declaration) (i : Items) → Among d (extensions_of i)
        → Among (named (f ++ text s d.name) (extension d)) (declared_in s f c i)
    extension-items d tree.none k = among-nil k
    extension-items d (tree.message n b i r) k =
        there (among-append-right (declared_in s (inside (f ++ text s n)) _ i) (extension-items d r k))
    extension-items d (tree.extension e r) here = here
    extension-items d (tree.extension e r) (there k) = there (extension-items d r k)
    extension-items d (tree.enumeration n b vs r) k = there (extension-items d r k)
    extension-items d (tree.field e r) k = extension-items d r k

    -- and so is what its messages declare
    inside-items : (m : Message) (i : Items) → Among m (messages_of i) → (b : Named)
        → Among b (declared_in s (inside (f ++ text s m.name)) (message_scope c m) m.inside) → Among b (declared_in s f c i)
    inside-items m tree.none k b j = among-nil k
    inside-items m (tree.message n h i r) here b j = there (among-append-left (declared_in s f c r) j)
    inside-items m (tree.message n h i r) (there k) b j =
        there (among-append-right (declared_in s (inside (f ++ text s n)) _ i) (inside-items m r k b j))
    inside-items m (tree.extension d r) k b j = there (inside-items m r k b j)
    inside-items m (tree.enumeration n h vs r) k b j = there (inside-items m r k b j)
    inside-items m (tree.field d r) k b j = inside-items m r k b j

    abbrev pub Under : Named → Type 0
    Under b = Among b (declared_in s f c c.items)

  pub holds-under : (f : List ℕ) (c : Scope) (n : Name) {w : What} → Holds c n w → Under f c (named (f ++ n) w)
  holds-under f c n (message-of m k e) = rw (← e) (message-items f c m c.items k)
  holds-under f c n (enum-of x k e) = rw (← e) (enum-items f c x c.items k)
  holds-under f c n (extension-of d k e) = rw (← e) (extension-items f c d c.items k)

  pub inside_under : (f : List ℕ) (c : Scope) (n : Name) (m : Message) → Among m (messages_of c.items) → text s m.name ≡ n
      → (b : Named) → Under (inside (f ++ n)) (message_scope c m) b → Under f c b
  inside_under f c n m k e b j = inside-items f c m c.items k b (rw e j)

  pub reach-under : (f : List ℕ) {ns : Path} {c d : Scope} → Reach ns c d → (b : Named) → Under (front_of f ns) d b → Under f c b
  reach-under f stays b j = j
  reach-under f (enters {n} {ns} {c} m k e r) b j = inside_under f c n m k e b (reach-under (inside (f ++ n)) r b j)

  -- a message that names lead to
  pub reach-message : (f : List ℕ) (n : Name) (ns : Path) {c d : Scope} → Reach (n ∷ ns) c d
      → Under f c (named (f ++ spell (n ∷ ns)) (message d))
  unfolding spell
  reach-message f n [] {c} (enters m k e stays) = holds-under f c n (message-of m k e)
  reach-message f n (l ∷ ns) {c} {d} (enters m k e r) =
      inside_under f c n m k e (named (f ++ spell (n ∷ l ∷ ns)) (message d))
      (rw (inside-front f n (spell (l ∷ ns))) at (reach-message (inside (f ++ n)) l ns r))

  pub reach-last : {ns : Path} {c d : Scope} (n : Name) → Reach ns c d → (m : Message) → Among m (messages_of d.items)
      → text s m.name ≡ n → Reach (ns ++ n ∷ []) c (message_scope d m)
  reach-last n stays m k e = enters m k e stays
  reach-last n (enters l j q r) m k e = enters l j q (reach-last n r m k e)
