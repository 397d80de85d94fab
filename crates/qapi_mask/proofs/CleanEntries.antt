-- What is printed of an entry is clean, where its texts are UTF-8.
use Rattle.std.proofs.Common.{◌≡◌, ℕ, Bool, true, false, List, [], ◌∷◌, ◌++◌, map, refl, ap, ◌∙◌, subst, inl, inr, arith, Option, Some, None}
use Rattle.std.specs.Prelude.{codes, nat_lt}
use Rattle.std.specs.{List.list_all, Str.IsAscii, Str.is_utf8}
use Rattle.std.proofs.lemmas.{Bool.and_from, Bool.and_parts, Bool.Decides.nat_tests, List.append-nil}
use Rattle.std.proofs.lemmas.{Str.IsUtf8-from_ascii, Str.is_utf8-from_IsUtf8, Str.Ascii.IsAscii-cons, Str.Ascii.IsAscii-nil}
use Rattle.qm_json.specs.declared.value.{Json.Json, Member.Member}
use Rattle.qm_json.specs.declared.value.Json.TheVariants as json
use Rattle.qm_json.specs.Cleanness.{are_distinct, is_clean, is_clean_member}
use Rattle.qm_json.proofs.CleanLaws.{is_clean-Arr, is_clean-Null, is_clean-Obj, is_clean-Str, is_clean_member-is}
use Rattle.qm_admit.specs.Fitting.{Among}
use Rattle.qapi_mask.specs.Entries.{Entry, Builtin, Enum, Array, Object, Alternate, MemberEntry, ValueEntry, Variant, TagEntry}
use Rattle.qapi_mask.specs.Printing.{with_value, with_text, features_members, default_members, member_json, value_json, variant_json, alternative_json, entry_json}
use Rattle.qapi_mask.proofs.Lists.{among-source}

abbrev pub IsText : List ℕ → Type 0
IsText name = is_utf8 name ≡ true

-- each thing of the list is so
abbrev pub Each : {X : Type 0} → (X → Type 0) → List X → Type 0
Each {X} P xs = (x : X) → Among x xs → P x

pub all-each : {X : Type 0} (test : X → Bool) (xs : List X) → Each (λ (x : X). test x ≡ true) xs → list_all test xs ≡ true
all-each test [] h = refl
all-each test (x ∷ xs) h = and_from _ _ (h x (inl refl)) (all-each test xs (λ y a. h y (inr a)))

pub each-map : {X Y : Type 0} (P : Y → Type 0) (f : X → Y) (xs : List X) → Each (λ (x : X). P (f x)) xs → Each P (map f xs)
each-map P f xs h y a = let s = among-source f y xs a in subst P s.is (h s.of s.among)

-- ASCII is UTF-8
pub ascii-text : (bytes : List ℕ) → IsAscii bytes → IsText bytes
ascii-text bytes h = is_utf8-from_IsUtf8 bytes (IsUtf8-from_ascii bytes h)

abbrev pub is_ascii : List ℕ → Bool
is_ascii bytes = list_all (λ b. nat_lt b 128) bytes

all-ascii : (bytes : List ℕ) → is_ascii bytes ≡ true → IsAscii bytes
all-ascii [] h = IsAscii-nil
all-ascii (b ∷ bytes) h =
    let parts = and_parts (nat_lt b 128) (is_ascii bytes) h in
    let l : nat_lt b 128 ≡ true = parts.0 in
    IsAscii-cons b bytes (grind (arith, nat_tests, l)) (all-ascii bytes parts.1)

pub text : (bytes : List ℕ) → is_ascii bytes ≡ true → IsText bytes
text bytes h = ascii-text bytes (all-ascii bytes h)

-- members, and objects that they make

pub clean-value : (name : List ℕ) (value : Json) → is_ascii name ≡ true → is_clean value ≡ true → is_clean_member (with_value name value) ≡ true
clean-value name value a c = is_clean_member-is (with_value name value) ∙ and_from (is_utf8 name) (is_clean value) (text name a) c

clean-string : (bytes : List ℕ) → IsText bytes → is_clean (json.Str bytes) ≡ true
clean-string bytes h = is_clean-Str bytes ∙ h

pub clean-text : (name bytes : List ℕ) → is_ascii name ≡ true → IsText bytes → is_clean_member (with_text name bytes) ≡ true
clean-text name bytes a h = clean-value name (json.Str bytes) a (clean-string bytes h)

pub clean-items : {X : Type 0} (f : X → Json) (xs : List X) → Each (λ (x : X). is_clean (f x) ≡ true) xs → is_clean (json.Arr (map f xs)) ≡ true
clean-items f xs h = is_clean-Arr (map f xs) ∙ all-each is_clean (map f xs) (each-map (λ v. is_clean v ≡ true) f xs h)

clean-array : {X : Type 0} (name : List ℕ) (f : X → Json) (xs : List X) → is_ascii name ≡ true → Each (λ (x : X). is_clean (f x) ≡ true) xs → is_clean_member (with_value name (json.Arr (map f xs))) ≡ true
clean-array name f xs a h = clean-value name (json.Arr (map f xs)) a (clean-items f xs h)

clean-strings : (name : List ℕ) (names : List (List ℕ)) → is_ascii name ≡ true → Each IsText names → is_clean_member (with_value name (json.Arr (map json.Str names))) ≡ true
clean-strings name names a h = clean-array name json.Str names a (λ n k. clean-string n (h n k))

-- members that are clean
pub data AreClean : List Member → Type 0 where
  none : AreClean []
  more : {m : Member} {members : List Member} → is_clean_member m ≡ true → AreClean members → AreClean (m ∷ members)

all-clean : {members : List Member} → AreClean members → list_all is_clean_member members ≡ true
all-clean none = refl
all-clean (more h c) = and_from _ _ h (all-clean c)

abbrev pub AreNamed : List Member → Type 0
AreNamed members = are_distinct (map (λ (m : Member). m.name) members) ≡ true

pub clean-object : (members : List Member) → AreNamed members → AreClean members → is_clean (json.Obj members) ≡ true
clean-object members d c = is_clean-Obj members ∙ and_from _ _ d (all-clean c)

-- the name under which features stand
abbrev pub mark : List Member
mark = with_value (codes "features") json.Null ∷ []

renamed : (members : List Member) (value : Json) → map (λ (m : Member). m.name) (members ++ with_value (codes "features") value ∷ []) ≡ map (λ (m : Member). m.name) (members ++ mark)
renamed [] value = refl
renamed (m ∷ members) value = ap {A = List (List ℕ)} (λ names. m.name ∷ names) (renamed members value)

clean-after : {members : List Member} (m : Member) → AreClean members → is_clean_member m ≡ true → AreClean (members ++ m ∷ [])
clean-after m none h = more h none
clean-after m (more k c) h = more k (clean-after m c h)

-- an object of members that may have features after them
pub clean-with : (members : List Member) (features : List (List ℕ)) → AreNamed members → AreNamed (members ++ mark) → AreClean members → Each IsText features → is_clean (json.Obj (members ++ features_members features)) ≡ true
clean-with members [] d e c h = ap (λ (ms : List Member). is_clean (json.Obj ms)) (append-nil members) ∙ clean-object members d c
clean-with members (name ∷ names) d e c h =
    let value : Json = json.Arr (map json.Str (name ∷ names)) in
    clean-object (members ++ with_value (codes "features") value ∷ []) (ap are_distinct (renamed members value) ∙ e)
    (clean-after (with_value (codes "features") value) c (clean-strings (codes "features") (name ∷ names) refl h))

-- the texts of the parts of an entry are UTF-8

abbrev pub IsMemberText : MemberEntry → Type 0
IsMemberText m = IsText m.name × IsText m.type × Each IsText m.features

abbrev pub IsValueText : ValueEntry → Type 0
IsValueText v = IsText v.name × Each IsText v.features

abbrev pub IsVariantText : Variant → Type 0
IsVariantText v = IsText v.case × IsText v.type

abbrev pub IsTagText : Option TagEntry → Type 0
IsTagText None = Unit {0}
IsTagText (Some tag) = IsText tag.name × Each IsVariantText tag.variants

abbrev pub IsEntryText : Entry → Type 0
IsEntryText (Builtin type) = IsText type
IsEntryText (Enum values features) = Each IsValueText values × Each IsText features
IsEntryText (Array e) = IsText e
IsEntryText (Object members tag features) = Each IsMemberText members × IsTagText tag × Each IsText features
IsEntryText (Alternate types features) = Each IsText types × Each IsText features

clean-member : (name type : List ℕ) (optional : Bool) (features : List (List ℕ)) → IsText name → IsText type → Each IsText features →
    is_clean (json.Obj (with_text (codes "name") name ∷ with_text (codes "type") type ∷ (default_members optional ++ features_members features))) ≡ true
clean-member name type false features n t h =
    clean-with (with_text (codes "name") name ∷ with_text (codes "type") type ∷ []) features refl refl
    (more (clean-text (codes "name") name refl n) (more (clean-text (codes "type") type refl t) none)) h
clean-member name type true features n t h =
    clean-with (with_text (codes "name") name ∷ with_text (codes "type") type ∷ with_value (codes "default") json.Null ∷ []) features refl refl
    (more (clean-text (codes "name") name refl n) (more (clean-text (codes "type") type refl t)
    (more (clean-value (codes "default") json.Null refl is_clean-Null) none))) h

clean-enum-value : (v : ValueEntry) → IsValueText v → is_clean (value_json v) ≡ true
clean-enum-value v h = clean-with (with_text (codes "name") v.name ∷ []) v.features refl refl (more (clean-text (codes "name") v.name refl h.0) none) h.1

clean-variant : (v : Variant) → IsVariantText v → is_clean (variant_json v) ≡ true
clean-variant v h = clean-object (with_text (codes "case") v.case ∷ with_text (codes "type") v.type ∷ []) refl
    (more (clean-text (codes "case") v.case refl h.0) (more (clean-text (codes "type") v.type refl h.1) none))

clean-alternative : (type : List ℕ) → IsText type → is_clean (alternative_json type) ≡ true
clean-alternative type h = clean-object (with_text (codes "type") type ∷ []) refl (more (clean-text (codes "type") type refl h) none)

-- an entry's name and meta-type, and then what it tells
clean-begun : (name meta : List ℕ) (members : List Member) → IsText name → is_ascii meta ≡ true → AreClean members → AreClean (with_text (codes "name") name ∷ with_text (codes "meta-type") meta ∷ members)
clean-begun name meta members n m c = more (clean-text (codes "name") name refl n) (more (clean-text (codes "meta-type") meta refl (text meta m)) c)

abbrev begun : List ℕ → List ℕ → List Member → List Member
begun name meta members = with_text (codes "name") name ∷ with_text (codes "meta-type") meta ∷ members

abbrev members_of : List MemberEntry → Member
members_of members = with_value (codes "members") (json.Arr (map member_json members))

clean-members : (members : List MemberEntry) → Each IsMemberText members → is_clean_member (members_of members) ≡ true
clean-members members h = clean-array (codes "members") member_json members refl (λ m a. clean-member m.name m.type m.optional m.features (h m a).0 (h m a).1 (h m a).2)

pub clean-entry : (name : List ℕ) (entry : Entry) → IsText name → IsEntryText entry → is_clean (entry_json name entry) ≡ true
clean-entry name (Builtin type) n h =
    clean-object (begun name (codes "builtin") (with_text (codes "json-type") type ∷ [])) refl
    (clean-begun name (codes "builtin") _ n refl (more (clean-text (codes "json-type") type refl h) none))
clean-entry name (Array e) n h =
    clean-object (begun name (codes "array") (with_text (codes "element-type") e ∷ [])) refl
    (clean-begun name (codes "array") _ n refl (more (clean-text (codes "element-type") e refl h) none))
clean-entry name (Enum values features) n h =
    let members : Member = with_value (codes "members") (json.Arr (map value_json values)) in
    let names : Member = with_value (codes "values") (json.Arr (map (λ (v : ValueEntry). json.Str v.name) values)) in
    clean-with (begun name (codes "enum") (members ∷ names ∷ [])) features refl refl
    (clean-begun name (codes "enum") _ n refl
    (more (clean-array (codes "members") value_json values refl (λ v a. clean-enum-value v (h.0 v a)))
    (more (clean-array (codes "values") (λ (v : ValueEntry). json.Str v.name) values refl (λ v a. clean-string v.name (h.0 v a).0)) none))) h.1
clean-entry name (Alternate types features) n h =
    let members : Member = with_value (codes "members") (json.Arr (map alternative_json types)) in
    clean-with (begun name (codes "alternate") (members ∷ [])) features refl refl
    (clean-begun name (codes "alternate") _ n refl (more (clean-array (codes "members") alternative_json types refl (λ t a. clean-alternative t (h.0 t a))) none)) h.1
clean-entry name (Object members None features) n h =
    clean-with (begun name (codes "object") (members_of members ∷ [])) features refl refl
    (clean-begun name (codes "object") _ n refl (more (clean-members members h.0) none)) h.2
clean-entry name (Object members (Some tag) features) n h =
    let variants : Member = with_value (codes "variants") (json.Arr (map variant_json tag.variants)) in
    clean-with (begun name (codes "object") (members_of members ∷ with_text (codes "tag") tag.name ∷ variants ∷ [])) features refl refl
    (clean-begun name (codes "object") _ n refl
    (more (clean-members members h.0)
    (more (clean-text (codes "tag") tag.name refl h.1.0)
    (more (clean-array (codes "variants") variant_json tag.variants refl (λ v a. clean-variant v (h.1.1 v a))) none)))) h.2
