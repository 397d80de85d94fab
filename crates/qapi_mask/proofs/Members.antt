-- A type's members, as the table has them and as a client reads them.
use Rattle.std.proofs.Common.{◌≡◌, ℕ, Bool, true, List, [], map, refl, ap, sym, ◌∙◌, subst, Option, Some, None}
use Rattle.std.specs.Prelude.{option_map, find}
use Rattle.std.specs.Option.{option_and_then, unwrap_or}
use Rattle.std.specs.Str.{bytes_eq}
use Rattle.qm_json.specs.declared.value.Member.{Member}
use Rattle.qapi_types.specs.declared.kind.{Kind.Kind, MemberDef.MemberDef, ObjectDef.ObjectDef}
use Rattle.qapi_types.specs.declared.kind.Kind.TheVariants as kinds
use Rattle.qapi_types.specs.Types.{kind_of, members_of}
use Rattle.qm_admit.specs.Fitting.{Among, IsMember, own, of_branch, chosen, text_in}
use Rattle.qm_admit.specs.Tags.{Case, Tag, tag_of, branch_for}
use Rattle.qapi_mask.specs.Entries.{member_entry, variant_of, tag_entry, entry_of, refs_of, refs_of_tag}
use Rattle.qapi_mask.specs.Reading.{MemberRead, VariantRead, TagRead, EntryRead, ObjectRead, LookUp, IsReadMember, own as own_read, of_variant, read_choice}
use Rattle.qapi_mask.specs.Told.{member_told, variant_told, tag_told, entry_told}
use Rattle.qapi_mask.proofs.Lists.{among-map, among-left, among-right, among-maps, among-sources, found-among, find-maps}

-- the look-up finds each listed type's entry by its name, what an entry refers to is listed, and one type is that of objects without members
pub record Introduces (table : List Kind) (name_of : ℕ → List ℕ) (empty : ℕ) (is_listed : ℕ → Bool) (look : LookUp) : Type 0 where
  pub finds : (t : ℕ) → is_listed t ≡ true → look (name_of t) ≡ Some (entry_told (entry_of table name_of empty (kind_of table t)))
  pub closed : (t r : ℕ) → is_listed t ≡ true → Among r (refs_of table empty (kind_of table t)) → is_listed r ≡ true
  pub empty_kind : kind_of table empty ≡ kinds.Object (record { members = []; tag = None; branches = []; features = [] })

-- what a client keeps of a type's parts
abbrev pub member_kept : (ℕ → List ℕ) → MemberDef → MemberRead
member_kept name_of m = member_told (member_entry name_of m)

abbrev pub members_kept : (ℕ → List ℕ) → List MemberDef → List MemberRead
members_kept name_of ms = map member_told (map (member_entry name_of) ms)

abbrev pub variant_kept : (ℕ → List ℕ) → ℕ → Case → VariantRead
variant_kept name_of empty c = variant_told (variant_of name_of empty c)

abbrev pub tag_kept : (ℕ → List ℕ) → ℕ → Option Tag → Option TagRead
tag_kept name_of empty tag = option_map tag_told (option_map (tag_entry name_of empty) tag)

-- the case of the tag that the given members choose
abbrev pub case_for : List Member → Tag → Option Case
case_for given tag = option_and_then (λ (text : List ℕ). find (λ (c : Case). bytes_eq c.name text) tag.cases) (text_in given tag.name)

text-cases : (tag : Tag) (text : Option (List ℕ)) → option_and_then (λ (text : List ℕ). branch_for text tag) text
    ≡ option_and_then (λ (c : Case). c.branch) (option_and_then (λ (text : List ℕ). find (λ (c : Case). bytes_eq c.name text) tag.cases) text)
text-cases tag None = refl
text-cases tag (Some text) = refl

chosen-cases : (given : List Member) (o : Option Tag) → option_and_then (λ (tag : Tag). option_and_then (λ (text : List ℕ). branch_for text tag) (text_in given tag.name)) o
    ≡ option_and_then (λ (c : Case). c.branch) (option_and_then (case_for given) o)
chosen-cases given None = refl
chosen-cases given (Some tag) = text-cases tag (text_in given tag.name)

-- what a value of some result came from
pub record Chosen (o : Option Case) (b : ℕ) : Type 0 where
  pub case : Case
  pub is : o ≡ Some case
  pub brings : case.branch ≡ Some b

chosen-case : (o : Option Case) (b : ℕ) → option_and_then (λ (c : Case). c.branch) o ≡ Some b → Chosen o b
chosen-case None b h = absurd cc
chosen-case (Some c) b h = record { case = c; is = refl; brings = h }

record From (f : Case → VariantRead) (o : Option Case) (x : VariantRead) : Type 0 where
  pub case : Case
  pub is : o ≡ Some case
  pub gives : f case ≡ x

from-case : (f : Case → VariantRead) (o : Option Case) (x : VariantRead) → option_map f o ≡ Some x → From f o x
from-case f None x h = absurd cc
from-case f (Some c) x h = record { case = c; is = refl; gives = cc }

-- the case is one of the tag's
pub case-of-text : (tag : Tag) (text : Option (List ℕ)) (c : Case) → option_and_then (λ (text : List ℕ). find (λ (c : Case). bytes_eq c.name text) tag.cases) text ≡ Some c → Among c tag.cases
case-of-text tag None c h = absurd cc
case-of-text tag (Some text) c h = found-among (λ (c : Case). bytes_eq c.name text) c tag.cases h

case-among : (given : List Member) (tag : Option Tag) (empty : ℕ) (c : Case) → option_and_then (case_for given) tag ≡ Some c → Among (unwrap_or c.branch empty) (refs_of_tag empty tag)
case-among given None empty c h = absurd cc
case-among given (Some tag) empty c h = among-map (λ (c : Case). unwrap_or c.branch empty) c tag.cases (case-of-text tag (text_in given tag.name) c h)

-- a type that has members or a tag is an object type
pub record IsObjectKind (kind : Kind) : Type 0 where
  pub def : ObjectDef
  pub is : kind ≡ kinds.Object def

own-object : (kind : Kind) (m : MemberDef) → Among m (members_of kind) → IsObjectKind kind
own-object (kinds.Object def) m a = record { def = def; is = refl }
own-object kind m a = absurd a

case-object : (table : List Kind) (given : List Member) (kind : Kind) (c : Case) → option_and_then (case_for given) (tag_of table kind) ≡ Some c → IsObjectKind kind
case-object table given (kinds.Object def) c h = record { def = def; is = refl }
case-object table given kind c h = absurd cc

pub cased : (table : List Kind) (given : List Member) (t b : ℕ) → chosen table given t ≡ Some b → Chosen (option_and_then (case_for given) (tag_of table (kind_of table t))) b
cased table given t b c = chosen-case (option_and_then (case_for given) (tag_of table (kind_of table t))) b (sym (chosen-cases given (tag_of table (kind_of table t))) ∙ c)

pub member-object : {table : List Kind} {given : List Member} {t : ℕ} {m : MemberDef} → IsMember table given t m → IsObjectKind (kind_of table t)
member-object {table = table} {t = t} {m = m} (own a) = own-object (kind_of table t) m a
member-object {table = table} {given = given} {t = t} (of_branch b c r) = let e = cased table given t b c in case-object table given (kind_of table t) e.case e.is

own-ref : (table : List Kind) (empty : ℕ) (kind : Kind) (m : MemberDef) → Among m (members_of kind) → Among m.type_id (refs_of table empty kind)
own-ref table empty (kinds.Object def) m a =
    among-left m.type_id (map (λ (m : MemberDef). m.type_id) def.members) (refs_of_tag empty (tag_of table (kinds.Object def))) (among-map (λ (m : MemberDef). m.type_id) m def.members a)
own-ref table empty kind m a = absurd a

case-ref : (table : List Kind) (empty : ℕ) (given : List Member) (kind : Kind) (c : Case) → option_and_then (case_for given) (tag_of table kind) ≡ Some c → Among (unwrap_or c.branch empty) (refs_of table empty kind)
case-ref table empty given (kinds.Object def) c h =
    among-right (unwrap_or c.branch empty) (map (λ (m : MemberDef). m.type_id) def.members) (refs_of_tag empty (tag_of table (kinds.Object def))) (case-among given (tag_of table (kinds.Object def)) empty c h)
case-ref table empty given kind c h = absurd cc

abbrev entry_members : EntryRead → List MemberRead
entry_members (ObjectRead ms tag) = ms
entry_members entry = []

abbrev entry_tag : EntryRead → Option TagRead
entry_tag (ObjectRead ms tag) = tag
entry_tag entry = None

module _ (table : List Kind) (name_of : ℕ → List ℕ) (empty : ℕ) (is_listed : ℕ → Bool) (look : LookUp) (i : Introduces table name_of empty is_listed look) where
  variant-text : (tag : Tag) (text : Option (List ℕ)) →
      option_and_then (λ (text : List ℕ). find (λ (v : VariantRead). bytes_eq v.case text) (map variant_told (map (variant_of name_of empty) tag.cases))) text
      ≡ option_map (variant_kept name_of empty) (option_and_then (λ (text : List ℕ). find (λ (c : Case). bytes_eq c.name text) tag.cases) text)
  variant-text tag None = refl
  variant-text tag (Some text) = find-maps (λ (v : VariantRead). bytes_eq v.case text) variant_told (variant_of name_of empty) tag.cases

  -- a client chooses the variant of the case
  choice-read : (given : List Member) (tag : Option Tag) → read_choice (tag_kept name_of empty tag) given ≡ option_map (variant_kept name_of empty) (option_and_then (case_for given) tag)
  choice-read given None = refl
  choice-read given (Some tag) = variant-text tag (text_in given tag.name)

  pub found : (t : ℕ) (kind : Kind) → is_listed t ≡ true → kind_of table t ≡ kind → look (name_of t) ≡ Some (entry_told (entry_of table name_of empty kind))
  found t kind l k = i.finds t l ∙ ap (λ (k : Kind). Some (entry_told (entry_of table name_of empty k))) k

  pub refers : (t r : ℕ) (kind : Kind) → is_listed t ≡ true → kind_of table t ≡ kind → Among r (refs_of table empty kind) → is_listed r ≡ true
  refers t r kind l k a = i.closed t r l (subst (λ (k : Kind). Among r (refs_of table empty k)) (sym k) a)

  case-listed : (given : List Member) (t : ℕ) (c : Case) → is_listed t ≡ true → option_and_then (case_for given) (tag_of table (kind_of table t)) ≡ Some c → is_listed (unwrap_or c.branch empty) ≡ true
  case-listed given t c l h = i.closed t (unwrap_or c.branch empty) l (case-ref table empty given (kind_of table t) c h)

  branch-listed : (given : List Member) (t b : ℕ) → is_listed t ≡ true → chosen table given t ≡ Some b → is_listed b ≡ true
  branch-listed given t b l c =
      let e = cased table given t b c in
      subst (λ (o : Option ℕ). is_listed (unwrap_or o empty) ≡ true) e.brings (case-listed given t e.case l e.is)

  pub member-listed : {given : List Member} {t : ℕ} {m : MemberDef} → IsMember table given t m → is_listed t ≡ true → is_listed m.type_id ≡ true
  member-listed {t = t} {m = m} (own a) l = i.closed t m.type_id l (own-ref table empty (kind_of table t) m a)
  member-listed {given = given} {t = t} (of_branch b c r) l = member-listed r (branch-listed given t b l c)

  pub member-read : {given : List Member} {t : ℕ} {m : MemberDef} → IsMember table given t m → is_listed t ≡ true → IsReadMember look given (name_of t) (member_kept name_of m)
  member-read {t = t} {m = m} (own a) l =
      let o = own-object (kind_of table t) m a in
      own_read (members_kept name_of o.def.members) (tag_kept name_of empty (tag_of table (kinds.Object o.def))) (found t (kinds.Object o.def) l o.is)
      (among-maps member_told (member_entry name_of) m o.def.members (subst (λ (k : Kind). Among m (members_of k)) o.is a))
  member-read {given = given} {t = t} {m = m} (of_branch b c r) l =
      let e = cased table given t b c in
      let o = case-object table given (kind_of table t) e.case e.is in
      of_variant (members_kept name_of o.def.members) (tag_kept name_of empty (tag_of table (kinds.Object o.def))) (variant_kept name_of empty e.case) (found t (kinds.Object o.def) l o.is)
      (choice-read given (tag_of table (kinds.Object o.def)) ∙ ap (option_map (variant_kept name_of empty)) (subst (λ (k : Kind). option_and_then (case_for given) (tag_of table k) ≡ Some e.case) o.is e.is))
      (subst (λ (o : Option ℕ). IsReadMember look given (name_of (unwrap_or o empty)) (member_kept name_of m)) (sym e.brings) (member-read r (branch-listed given t b l c)))

  -- the empty type has no members
  empty-none : {given : List Member} {t : ℕ} {m : MemberDef} → IsMember table given t m → t ≡ empty → ⊥
  empty-none {t = t} {m = m} (own a) e = subst (λ (k : Kind). Among m (members_of k)) (ap (kind_of table) e ∙ i.empty_kind) a
  empty-none {given = given} {t = t} (of_branch b c r) e =
      let x = cased table given t b c in
      let h : None ≡ Some x.case = subst (λ (k : Kind). option_and_then (case_for given) (tag_of table k) ≡ Some x.case) (ap (kind_of table) e ∙ i.empty_kind) x.is in absurd cc

  -- a member that a client reads is one of the table
  pub record Told (given : List Member) (t : ℕ) (m : MemberRead) : Type 0 where
    pub def : MemberDef
    pub member : IsMember table given t def
    pub is : member_kept name_of def ≡ m

  pub record ObjectKind (t : ℕ) (ms : List MemberRead) (tag : Option TagRead) : Type 0 where
    pub def : ObjectDef
    pub kind : kind_of table t ≡ kinds.Object def
    pub members : members_kept name_of def.members ≡ ms
    pub tag_is : tag_kept name_of empty (tag_of table (kinds.Object def)) ≡ tag

  object-kind : (t : ℕ) (kind : Kind) (ms : List MemberRead) (tag : Option TagRead) → kind_of table t ≡ kind → entry_told (entry_of table name_of empty kind) ≡ ObjectRead ms tag → ObjectKind t ms tag
  object-kind t (kinds.Object def) ms tag k e = record { def = def; kind = k; members = ap entry_members e; tag_is = ap entry_tag e }
  object-kind t kind ms tag k e = absurd cc

  -- the entry of the name is that of the type
  pub entry-is : (t : ℕ) (n : List ℕ) (entry : EntryRead) → is_listed t ≡ true → n ≡ name_of t → look n ≡ Some entry → entry_told (entry_of table name_of empty (kind_of table t)) ≡ entry
  entry-is t n entry l e h = let g : Some (entry_told (entry_of table name_of empty (kind_of table t))) ≡ Some entry = sym (i.finds t l) ∙ ap look (sym e) ∙ h in cc

  pub object-of : (t : ℕ) (n : List ℕ) (ms : List MemberRead) (tag : Option TagRead) → is_listed t ≡ true → n ≡ name_of t → look n ≡ Some (ObjectRead ms tag) → ObjectKind t ms tag
  object-of t n ms tag l e h = object-kind t (kind_of table t) ms tag refl (entry-is t n (ObjectRead ms tag) l e h)

  own-back : (given : List Member) (t : ℕ) (m : MemberRead) (ms : List MemberRead) (tag : Option TagRead) → ObjectKind t ms tag → Among m ms → Told given t m
  own-back given t m ms tag o a =
      let x = among-sources member_told (member_entry name_of) m o.def.members (subst (λ (l : List MemberRead). Among m l) (sym o.members) a) in
      record { def = x.of; member = own (subst (λ (k : Kind). Among x.of (members_of k)) (sym o.kind) x.among); is = x.is }

  by-branch : (given : List Member) (t : ℕ) (m : MemberRead) (x : VariantRead) → is_listed t ≡ true → (c : Case) →
      option_and_then (case_for given) (tag_of table (kind_of table t)) ≡ Some c → variant_kept name_of empty c ≡ x → (b : Option ℕ) → c.branch ≡ b →
      ((u : ℕ) → x.type ≡ name_of u → is_listed u ≡ true → Told given u m) → Told given t m
  by-branch given t m x l c is gives None e again =
      let lu : is_listed empty ≡ true = subst (λ (o : Option ℕ). is_listed (unwrap_or o empty) ≡ true) e (case-listed given t c l is) in
      let told = again empty (ap (λ (v : VariantRead). v.type) (sym gives) ∙ ap (λ (o : Option ℕ). name_of (unwrap_or o empty)) e) lu in
      absurd (empty-none told.member refl)
  by-branch given t m x l c is gives (Some b) e again =
      let lu : is_listed b ≡ true = subst (λ (o : Option ℕ). is_listed (unwrap_or o empty) ≡ true) e (case-listed given t c l is) in
      let told = again b (ap (λ (v : VariantRead). v.type) (sym gives) ∙ ap (λ (o : Option ℕ). name_of (unwrap_or o empty)) e) lu in
      record {
        def = told.def;
        member = of_branch b (chosen-cases given (tag_of table (kind_of table t)) ∙ ap (option_and_then (λ (c : Case). c.branch)) is ∙ e) told.member;
        is = told.is;
      }

  variant-back : (given : List Member) (t : ℕ) (m : MemberRead) (ms : List MemberRead) (tag : Option TagRead) (x : VariantRead) → is_listed t ≡ true → ObjectKind t ms tag → read_choice tag given ≡ Some x →
      ((u : ℕ) → x.type ≡ name_of u → is_listed u ≡ true → Told given u m) → Told given t m
  variant-back given t m ms tag x l o c again =
      let h : option_map (variant_kept name_of empty) (option_and_then (case_for given) (tag_of table (kinds.Object o.def))) ≡ Some x =
      sym (choice-read given (tag_of table (kinds.Object o.def))) ∙ ap (λ (tag : Option TagRead). read_choice tag given) o.tag_is ∙ c in
      let f = from-case (variant_kept name_of empty) (option_and_then (case_for given) (tag_of table (kinds.Object o.def))) x h in
      by-branch given t m x l f.case (subst (λ (k : Kind). option_and_then (case_for given) (tag_of table k) ≡ Some f.case) (sym o.kind) f.is) f.gives f.case.branch refl again

  pub member-back : {given : List Member} {n : List ℕ} {m : MemberRead} → IsReadMember look given n m → (t : ℕ) → n ≡ name_of t → is_listed t ≡ true → Told given t m
  member-back {given = given} {n = n} {m = m} (own_read ms tag h a) t e l = own-back given t m ms tag (object-of t n ms tag l e h) a
  member-back {given = given} {n = n} {m = m} (of_variant ms tag x h c r) t e l = variant-back given t m ms tag x l (object-of t n ms tag l e h) c (member-back r)
