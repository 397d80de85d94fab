-- What fits is read, and what is read in bounds fits.
use Rattle.std.proofs.Common.{◌≡◌, ◌||◌, ℕ, Bool, true, false, List, [], ◌∷◌, map, refl, ap, sym, ◌∙◌, subst, inl, inr}
use Rattle.std.specs.Prelude.{ℤ}
use Rattle.std.specs.{List.list_any, Str.bytes_eq}
use Rattle.std.proofs.lemmas.Slice.Eq.{bytes_eq-Decides}
use Rattle.qm_base.specs.Names.{is_named}
use Rattle.qm_json.specs.declared.value.{Json.Json, Member.Member}
use Rattle.qm_json.specs.Members.{has_name}
use Rattle.qapi_types.specs.declared.kind.{Kind.Kind, MemberDef.MemberDef, ValueDef.ValueDef, Whole.Whole}
use Rattle.qapi_types.specs.declared.kind.Kind.TheVariants as kinds
use Rattle.qapi_types.specs.Types.{kind_of}
use Rattle.qm_admit.specs.Ranges.{is_in_range}
use Rattle.qm_admit.specs.Tags.{tag_of}
use Rattle.qm_admit.specs.Views.{View, IsNull, IsBool, IsInt, IsNum, IsStr, IsArr, IsObj, view_of}
use Rattle.qm_admit.specs.Fitting.{Among, IsMember, Fits, plain, array, alternate, object, FitItems, no_items, items, FitMembers, no_members, members, fits_plainly, HasMandatory}
use Rattle.qapi_mask.specs.Bounds.{here, item, alternative, member, IsInBounds}
use Rattle.qapi_mask.specs.Entries.{ValueEntry, value_entry, entry_of}
use Rattle.qapi_mask.specs.Reading.{MemberRead, EntryRead, ArrayRead, AlternateRead, LookUp, IsReadMember, reads_plainly, HasReadMandatory, Reads, plain as plain_read, array as array_read, alternate as alternate_read, object as object_read, ReadItems, no_items as no_items_read, items as items_read, ReadMembers, no_members as no_members_read, members as members_read}
use Rattle.qapi_mask.specs.Told.{entry_told}
use Rattle.qapi_mask.proofs.Lists.{among-map, among-source}
use Rattle.qapi_mask.proofs.Members.{Introduces, member_kept, members_kept, tag_kept, found, refers, member-listed, member-read, member-back, object-of, entry-is}

text-flip : (a b : List ℕ) (x y : Bool) → bytes_eq a b ≡ x → bytes_eq b a ≡ y → x ≡ y
text-flip a b true true h k = refl
text-flip a b false false h k = refl
text-flip a b true false h k = let e : bytes_eq b a ≡ true = (bytes_eq-Decides b a).1 (sym ((bytes_eq-Decides a b).0 h)) in absurd cc
text-flip a b false true h k = let e : bytes_eq a b ≡ true = (bytes_eq-Decides a b).1 (sym ((bytes_eq-Decides b a).0 k)) in absurd cc

-- the names of an enum's values, as a client reads them
values-read : (values : List ValueDef) (bytes : List ℕ) →
    list_any (λ (value : List ℕ). bytes_eq value bytes) (map (λ (v : ValueEntry). v.name) (map value_entry values)) ≡ is_named (map (λ (v : ValueDef). v.name) values) bytes
values-read [] bytes = refl
values-read (v ∷ values) bytes = λ i. text-flip v.name bytes (bytes_eq v.name bytes) (bytes_eq bytes v.name) refl refl i || values-read values bytes i

module _ (table : List Kind) (name_of : ℕ → List ℕ) (empty : ℕ) (is_listed : ℕ → Bool) (look : LookUp) (i : Introduces table name_of empty is_listed look) where
  plainly : (kind : Kind) (view : View) → fits_plainly kind view ≡ true → reads_plainly (entry_told (entry_of table name_of empty kind)) view ≡ true
  plainly kinds.Any IsNull h = refl
  plainly kinds.Any IsBool h = refl
  plainly kinds.Any (IsInt n) h = refl
  plainly kinds.Any IsNum h = refl
  plainly kinds.Any (IsStr bytes) h = refl
  plainly kinds.Any (IsArr vs) h = refl
  plainly kinds.Any (IsObj ms) h = refl
  plainly kinds.Str (IsStr bytes) h = refl
  plainly kinds.Number (IsInt n) h = refl
  plainly kinds.Number IsNum h = refl
  plainly (kinds.Whole whole) (IsInt n) h = refl
  plainly kinds.Bool IsBool h = refl
  plainly kinds.Null IsNull h = refl
  plainly (kinds.Enum values features) (IsStr bytes) h = values-read values bytes ∙ h
  plainly kind view h = absurd cc

  mandatory-read : (given : List Member) (t : ℕ) → is_listed t ≡ true → HasMandatory table given t → HasReadMandatory look given (name_of t)
  mandatory-read given t l h m r o =
      let told = member-back table name_of empty is_listed look i r t refl l in
      ap (λ (m : MemberRead). has_name given m.name) (sym told.is) ∙ h told.def told.member (ap (λ (m : MemberRead). m.optional) told.is ∙ o)

  mutual
    pub reads : {t : ℕ} {v : Json} → Fits table t v → is_listed t ≡ true → Reads look (name_of t) v
    reads {t = t} {v = v} (plain h) l = plain_read (entry_told (entry_of table name_of empty (kind_of table t))) (i.finds t l) (plainly (kind_of table t) (view_of v) h)
    reads {t = t} (array e vs k is fs) l = array_read (name_of e) vs (found table name_of empty is_listed look i t (kinds.Array e) l k) is
        (reads_items fs (refers table name_of empty is_listed look i t e (kinds.Array e) l k (inl refl)))
    reads {t = t} (alternate types features a k among f) l = alternate_read (map name_of types) (name_of a) (found table name_of empty is_listed look i t (kinds.Alternate types features) l k) (among-map name_of a types among)
        (reads f (refers table name_of empty is_listed look i t a (kinds.Alternate types features) l k among))
    reads {t = t} (object def given k is h fs) l = object_read (members_kept name_of def.members) (tag_kept name_of empty (tag_of table (kinds.Object def))) given
        (found table name_of empty is_listed look i t (kinds.Object def) l k) is (mandatory-read given t l h) (reads_members fs l)

    reads_items : {e : ℕ} {vs : List Json} → FitItems table e vs → is_listed e ≡ true → ReadItems look (name_of e) vs
    reads_items no_items l = no_items_read
    reads_items (items f fs) l = items_read (reads f l) (reads_items fs l)

    reads_members : {given : List Member} {t : ℕ} {xs : List Member} → FitMembers table given t xs → is_listed t ≡ true → ReadMembers look given (name_of t) xs
    reads_members no_members l = no_members_read
    reads_members (members m is_member e f fs) l = members_read (member_kept name_of m) (member-read table name_of empty is_listed look i is_member l) e
        (reads f (member-listed table name_of empty is_listed look i is_member l)) (reads_members fs l)

  -- the ranges of whole types are asked for apart
  plainly-back : (kind : Kind) (view : View) → reads_plainly (entry_told (entry_of table name_of empty kind)) view ≡ true → ((whole : Whole) (n : ℤ) → kind ≡ kinds.Whole whole → view ≡ IsInt n → is_in_range whole n ≡ true) → fits_plainly kind view ≡ true
  plainly-back kinds.Any view h r = refl
  plainly-back kinds.Str (IsStr bytes) h r = refl
  plainly-back kinds.Number (IsInt n) h r = refl
  plainly-back kinds.Number IsNum h r = refl
  plainly-back (kinds.Whole whole) (IsInt n) h r = r whole n refl refl
  plainly-back kinds.Bool IsBool h r = refl
  plainly-back kinds.Null IsNull h r = refl
  plainly-back (kinds.Enum values features) (IsStr bytes) h r = sym (values-read values bytes) ∙ h
  plainly-back kind view h r = absurd cc

  record ArrayKind (t : ℕ) (e : List ℕ) : Type 0 where
    pub of : ℕ
    pub kind : kind_of table t ≡ kinds.Array of
    pub name : e ≡ name_of of

  array-kind : (t : ℕ) (kind : Kind) (e : List ℕ) → kind_of table t ≡ kind → entry_told (entry_of table name_of empty kind) ≡ ArrayRead e → ArrayKind t e
  array-kind t (kinds.Array of) e k h = record { of = of; kind = k; name = cc }
  array-kind t kind e k h = absurd cc

  record AlternateKind (t : ℕ) (names : List (List ℕ)) : Type 0 where
    pub of : List ℕ
    pub features : List (List ℕ)
    pub kind : kind_of table t ≡ kinds.Alternate of features
    pub name : map name_of of ≡ names

  alternate-kind : (t : ℕ) (kind : Kind) (names : List (List ℕ)) → kind_of table t ≡ kind → entry_told (entry_of table name_of empty kind) ≡ AlternateRead names → AlternateKind t names
  alternate-kind t (kinds.Alternate of features) names k h = record { of = of; features = features; kind = k; name = cc }
  alternate-kind t kind names k h = absurd cc

  mandatory-back : (given : List Member) (t : ℕ) (n : List ℕ) → n ≡ name_of t → is_listed t ≡ true → HasReadMandatory look given n → HasMandatory table given t
  mandatory-back given t n e l h m is_member o =
      h (member_kept name_of m) (subst (λ (n : List ℕ). IsReadMember look given n (member_kept name_of m)) (sym e) (member-read table name_of empty is_listed look i is_member l)) o

  mutual
    pub fits : {n : List ℕ} {v : Json} → Reads look n v → (t : ℕ) → n ≡ name_of t → is_listed t ≡ true → IsInBounds table t v → Fits table t v
    fits {n = n} {v = v} (plain_read entry h p) t e l b = plain (plainly-back (kind_of table t) (view_of v) (ap (λ (entry : EntryRead). reads_plainly entry (view_of v)) (entry-is table name_of empty is_listed look i t n entry l e h) ∙ p)
        (λ whole n k is. b t v whole n k is (here refl refl)))
    fits {n = n} (array_read x vs h is rs) t e l b =
        let k = array-kind t (kind_of table t) x refl (entry-is table name_of empty is_listed look i t n (ArrayRead x) l e h) in
        array k.of vs k.kind is (fits_items rs k.of k.name (refers table name_of empty is_listed look i t k.of (kinds.Array k.of) l k.kind (inl refl))
        (λ y among u w whole n ku iw st. b u w whole n ku iw (item k.of vs y k.kind is among st)))
    fits {n = n} (alternate_read names a h among r) t e l b =
        let k = alternate-kind t (kind_of table t) names refl (entry-is table name_of empty is_listed look i t n (AlternateRead names) l e h) in
        let x = among-source name_of a k.of (subst (λ (l : List (List ℕ)). Among a l) (sym k.name) among) in
        alternate k.of k.features x.of k.kind x.among (fits r x.of (sym x.is) (refers table name_of empty is_listed look i t x.of (kinds.Alternate k.of k.features) l k.kind x.among)
        (λ u w whole n ku iw st. b u w whole n ku iw (alternative k.of k.features x.of k.kind x.among st)))
    fits {n = n} (object_read ms tag given h is mandatory rs) t e l b =
        let k = object-of table name_of empty is_listed look i t n ms tag l e h in
        object k.def given k.kind is (mandatory-back given t n e l mandatory) (fits_members rs t e l
        (λ m y is_member among same u w whole n ku iw st. b u w whole n ku iw (member given m y is is_member among same st)))

    fits_items : {x : List ℕ} {vs : List Json} → ReadItems look x vs → (e : ℕ) → x ≡ name_of e → is_listed e ≡ true → ((y : Json) → Among y vs → IsInBounds table e y) → FitItems table e vs
    fits_items no_items_read e x l b = no_items
    fits_items (items_read {v = v} r rs) e x l b = items (fits r e x l (b v (inl refl))) (fits_items rs e x l (λ y among. b y (inr among)))

    fits_members : {given : List Member} {n : List ℕ} {xs : List Member} → ReadMembers look given n xs → (t : ℕ) → n ≡ name_of t → is_listed t ≡ true →
        ((m : MemberDef) (y : Member) → IsMember table given t m → Among y xs → m.name ≡ y.name → IsInBounds table m.type_id y.value) → FitMembers table given t xs
    fits_members no_members_read t e l b = no_members
    fits_members (members_read {x = x} m is_member same r rs) t e l b =
        let told = member-back table name_of empty is_listed look i is_member t e l in
        let name : told.def.name ≡ x.name = ap (λ (m : MemberRead). m.name) told.is ∙ same in
        members told.def told.member name
        (fits r told.def.type_id (ap (λ (m : MemberRead). m.type) (sym told.is)) (member-listed table name_of empty is_listed look i told.member l) (b told.def x told.member (inl refl) name))
        (fits_members rs t e l (λ m y is_member among same. b m y is_member (inr among) same))
