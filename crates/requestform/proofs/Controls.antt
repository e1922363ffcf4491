-- Closed cases of the definitions, computed: of each rule one that holds, one at the limit and one refused just past it.
-- Assumes nothing.
use Rattle.std.specs.Prelude.{◌≡◌, refl, true, false, List, [], ◌∷◌, ◌++◌, map, ℕ, zero, suc, length}
use lib.ListN.{replicate}
use Rattle.octets.specs.Octets.{big_at}
use Rattle.ident.specs.Ident.{is_letter, is_digit, all_word, is_ident}
use Rattle.path.specs.Path.{dot, on_first, split, components, all_ident, is_rel_path, is_rel_or_empty, rootless, is_path}
use Rattle.field.specs.Field.{field_at}
use Rattle.field.specs.Walk.{walk_by}
use Rattle.field.specs.Leaf.{leaf_at}
use Rattle.request.specs.Table.{option_tag, scope_tag, options_type_tag, direct_part_tag, extension_part_tag, bool_tag}
use Rattle.request.specs.Table.{message_constant_tag, pair_field_tag, pair_extension_tag, pair_url_tag, list_tag}
use Rattle.request.specs.Name.{part_of}
use Rattle.constantform.specs.Leaves.{is_constant, is_bool, is_url, good_scalar, good_pair_name, good_part}
use Rattle.reply.specs.Verdicts.{beyond, fine}
use Rattle.constantform.specs.Form.{bad_request}
use Rattle.optionform.specs.Form.{judge_last, judge_option}
use Rattle.requestform.specs.Form.{judge_options, judge_request, judge_name}
use Rattle.requestform.specs.Form.{judge_scope, judge_options_type, judge_path}

-- ---- bytes
-- a field whose payload has fewer than 256 bytes
abbrev field : ℕ → List ℕ → List ℕ
field tag payload = tag ∷ 0 ∷ length payload ∷ payload

-- the bytes n times over
abbrev times : ℕ → List ℕ → List ℕ
times zero bs = []
times (suc n) bs = bs ++ times n bs

-- the field inside n lists
abbrev in_lists : ℕ → List ℕ → List ℕ
in_lists zero bs = bs
in_lists (suc n) bs = field list_tag (in_lists n bs)

-- `x`, and `.x`
abbrev direct : List ℕ
direct = field direct_part_tag (120 ∷ [])

abbrev rooted : List ℕ
rooted = dot ∷ 120 ∷ []

abbrev yes : List ℕ
yes = field bool_tag (1 ∷ [])

-- a pair whose name is `x`, and its constant
abbrev pair : ℕ → List ℕ
pair tag = field tag (120 ∷ []) ++ yes

-- a request of no scope whose options are those of the type `a`
abbrev request : List ℕ → List ℕ
request options = field scope_tag [] ++ field options_type_tag (97 ∷ []) ++ options

abbrev option : List ℕ → List ℕ → List ℕ
option parts constant = request (field option_tag (parts ++ constant))

-- ---- requests
-- 01, P1: 18 0001 70, 19 0003 6F2E46, 08 000F [1B 0001 78, 21 0008 0000000000000007]
abbrev p1 : List ℕ
p1 =
    0x18 ∷ 0 ∷ 1 ∷ 0x70
    ∷ 0x19 ∷ 0 ∷ 3 ∷ 0x6F ∷ 0x2E ∷ 0x46
    ∷ 0x08 ∷ 0 ∷ 0x0F
    ∷ 0x1B ∷ 0 ∷ 1 ∷ 0x78
    ∷ 0x21 ∷ 0 ∷ 8 ∷ 0 ∷ 0 ∷ 0 ∷ 0 ∷ 0 ∷ 0 ∷ 0 ∷ 7
    ∷ []

-- P1; no options; `.x` in 1B; a bool inside 15 lists; 16 parts; pairs by field, extension path and type URL
abbrev sound : List (List ℕ)
sound =
    p1
    ∷ request []
    ∷ option (field extension_part_tag rooted) yes
    ∷ option direct (in_lists 15 yes)
    ∷ option (times 16 direct) yes
    ∷ option direct (field message_constant_tag (pair pair_field_tag ++ pair pair_extension_tag ++ pair pair_url_tag))
    ∷ []

-- no bytes; the options type `a.`; no part; a part after the constant; `.x` in 1A; a wrong tag inside 16 lists; a pair with no constant;
-- a pair by a part
abbrev bad : List (List ℕ)
bad =
    []
    ∷ (field scope_tag [] ++ field options_type_tag (97 ∷ dot ∷ []))
    ∷ option [] yes
    ∷ option direct (yes ++ direct)
    ∷ option (field direct_part_tag rooted) yes
    ∷ option direct (in_lists 16 (field 0x30 []))
    ∷ option direct (field message_constant_tag (pair pair_field_tag ++ field pair_field_tag (120 ∷ [])))
    ∷ option direct (field message_constant_tag (pair direct_part_tag))
    ∷ []

-- a bool inside 16 lists; 17 parts; 8,193 bytes of no form
abbrev large : List (List ℕ)
large = option direct (in_lists 16 yes) ∷ option (times 17 direct) yes ∷ replicate 8193 0 ∷ []

requests : map judge_request (sound ++ bad ++ large) ≡ replicate 6 fine ++ replicate 8 bad_request ++ replicate 3 beyond
unfolding judge_request judge_options judge_option judge_last is_constant is_bool is_url good_scalar good_pair_name good_part
    leaf_at field_at big_at walk_by part_of
    is_rel_or_empty is_rel_path is_path rootless components split on_first all_ident is_ident is_letter is_digit all_word
requests = refl

-- ---- the 128th and the 129th option
indices : map (λ i. judge_option (direct ++ yes) i option_tag 0 8) (127 ∷ 128 ∷ []) ≡ fine ∷ beyond ∷ []
unfolding judge_option judge_last is_constant is_bool good_scalar good_part field_at big_at walk_by part_of is_ident is_letter all_word
indices = refl

-- ---- names alone: a part; no bytes; a part and a constant
names : map judge_name (direct ∷ [] ∷ (direct ++ yes) ∷ []) ≡ fine ∷ bad_request ∷ bad_request ∷ []
unfolding judge_name good_part field_at big_at walk_by part_of is_ident is_letter all_word
names = refl

-- ---- type URLs of 1, 255, 0 and 256 bytes
urls : map (λ n. good_pair_name pair_url_tag (replicate n 47)) (1 ∷ 255 ∷ 0 ∷ 256 ∷ []) ≡ true ∷ true ∷ false ∷ false ∷ []
unfolding good_pair_name is_url
urls = refl

-- ---- paths alone: nothing, `x`, `.x`, `.`; only a scope may be empty, and only a path as a part has it may lead with a dot
abbrev texts : List (List ℕ)
texts = [] ∷ (120 ∷ []) ∷ rooted ∷ (dot ∷ []) ∷ []

scopes : map judge_scope texts ≡ fine ∷ fine ∷ bad_request ∷ bad_request ∷ []
unfolding judge_scope is_rel_or_empty all_ident components split on_first is_ident is_letter is_digit all_word
scopes = refl

options-types : map judge_options_type texts ≡ bad_request ∷ fine ∷ bad_request ∷ bad_request ∷ []
unfolding judge_options_type is_rel_path all_ident split on_first is_ident is_letter is_digit all_word
options-types = refl

paths : map judge_path texts ≡ bad_request ∷ fine ∷ fine ∷ bad_request ∷ []
unfolding judge_path is_path rootless all_ident split on_first is_ident is_letter is_digit all_word
paths = refl
