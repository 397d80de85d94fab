-- What is printed of an entry is read again.
use Rattle.std.proofs.Common.{◌≡◌, ℕ, Bool, true, false, List, [], ◌∷◌, map, refl, ap, ◌∙◌, Option, Some, None}
use Rattle.std.specs.Prelude.{codes}
use Rattle.qm_json.specs.declared.value.{Json.Json}
use Rattle.qm_json.specs.declared.value.Json.TheVariants as json
use Rattle.qm_json.specs.declared.value.Json.TheViews.{outs-Str, outs-Arr, outs-Obj}
use Rattle.qm_json.specs.Members.{members_of}
use Rattle.qapi_types.specs.declared.parts.{Parts.Parts}
use Rattle.qm_admit.specs.Views.{layer_view, IsArr, view_of}
use Rattle.qapi_mask.specs.Calls.{Call, Command, Event}
use Rattle.qapi_mask.specs.Entries.{Entry, Builtin, Enum, Array, Object, Alternate, MemberEntry, ValueEntry, Variant, TagEntry}
use Rattle.qapi_mask.specs.Introspection.{call_json}
use Rattle.qapi_mask.specs.Printing.{member_json, variant_json, alternative_json, entry_json}
use Rattle.qapi_mask.specs.Reading.{CommandRead, EntryRead, EnumRead, ObjectRead, AlternateRead, MemberRead, TagRead, Named, text_of, text_at, read_member, read_variant, read_item, command_from}
use Rattle.qapi_mask.specs.Told.{member_told, variant_told, entry_told, command_told}

pub view-Arr : (items : List Json) → view_of (json.Arr items) ≡ IsArr items
view-Arr items = ap layer_view (outs-Arr items)

-- what each item is read as
map-through : {X Y Z : Type 0} (f : X → Y) (g : Y → Z) (h : X → Z) (xs : List X) → ((x : X) → g (f x) ≡ h x) → map g (map f xs) ≡ map h xs
map-through f g h [] e = refl
map-through f g h (x ∷ xs) e = λ i. e x i ∷ map-through f g h xs e i

map-back : {X Y : Type 0} (f : X → Y) (g : Y → X) (xs : List X) → ((x : X) → g (f x) ≡ x) → map g (map f xs) ≡ xs
map-back f g [] e = refl
map-back f g (x ∷ xs) e = λ i. e x i ∷ map-back f g xs e i

member-at : (name type : List ℕ) (optional : Bool) (features : List (List ℕ)) →
    read_member (member_json (record { name = name; type = type; optional = optional; features = features })) ≡ record { name = name; type = type; optional = optional }
member-at name type true [] = simp (outs-Obj, outs-Str) refl
member-at name type true (x ∷ features) = simp (outs-Obj, outs-Str) refl
member-at name type false [] = simp (outs-Obj, outs-Str) refl
member-at name type false (x ∷ features) = simp (outs-Obj, outs-Str) refl

member-read : (m : MemberEntry) → read_member (member_json m) ≡ member_told m
member-read m = member-at m.name m.type m.optional m.features

variant-read : (v : Variant) → read_variant (variant_json v) ≡ variant_told v
variant-read v = simp (outs-Obj, outs-Str) refl

value-read : (v : ValueEntry) → text_of (json.Str v.name) ≡ v.name
value-read v = simp outs-Str refl

alternative-read : (type : List ℕ) → text_at (codes "type") (members_of (alternative_json type)) ≡ type
alternative-read type = simp (outs-Obj, outs-Str) refl

abbrev named : List ℕ → EntryRead → List Named
named name entry = record { name = name; entry = entry } ∷ []

values-at : (name : List ℕ) (values : List ValueEntry) (features : List (List ℕ)) → read_item (entry_json name (Enum values features)) ≡ named name (EnumRead (map text_of (map (λ (v : ValueEntry). json.Str v.name) values)))
values-at name values [] = simp (outs-Obj, outs-Str, outs-Arr) refl
values-at name values (x ∷ features) = simp (outs-Obj, outs-Str, outs-Arr) refl

abbrev tag_back : TagEntry → TagRead
tag_back tag = record { name = tag.name; variants = map read_variant (map variant_json tag.variants) }

abbrev tag_read_back : Option TagEntry → Option TagRead
tag_read_back None = None
tag_read_back (Some tag) = Some (tag_back tag)

object-at : (name : List ℕ) (ms : List MemberEntry) (tag : Option TagEntry) (features : List (List ℕ)) → read_item (entry_json name (Object ms tag features)) ≡ named name (ObjectRead (map read_member (map member_json ms)) (tag_read_back tag))
object-at name ms None [] = simp (outs-Obj, outs-Str, outs-Arr) refl
object-at name ms None (x ∷ features) = simp (outs-Obj, outs-Str, outs-Arr) refl
object-at name ms (Some tag) [] = simp (outs-Obj, outs-Str, outs-Arr) refl
object-at name ms (Some tag) (x ∷ features) = simp (outs-Obj, outs-Str, outs-Arr) refl

alternate-at : (name : List ℕ) (types features : List (List ℕ)) → read_item (entry_json name (Alternate types features)) ≡ named name (AlternateRead (map (λ (value : Json). text_at (codes "type") (members_of value)) (map alternative_json types)))
alternate-at name types [] = simp (outs-Obj, outs-Str, outs-Arr) refl
alternate-at name types (x ∷ features) = simp (outs-Obj, outs-Str, outs-Arr) refl

pub entry-read : (name : List ℕ) (entry : Entry) → read_item (entry_json name entry) ≡ record { name = name; entry = entry_told entry } ∷ []
entry-read name (Builtin type) = simp (outs-Obj, outs-Str) refl
entry-read name (Enum values features) = values-at name values features ∙ ap (λ (l : List (List ℕ)). named name (EnumRead l)) (map-through (λ (v : ValueEntry). json.Str v.name) text_of (λ (v : ValueEntry). v.name) values value-read)
entry-read name (Array e) = simp (outs-Obj, outs-Str) refl
entry-read name (Object ms None features) = object-at name ms None features ∙ ap (λ (l : List MemberRead). named name (ObjectRead l None)) (map-through member_json read_member member_told ms member-read)
entry-read name (Object ms (Some tag) features) = object-at name ms (Some tag) features
    ∙ (λ i. named name (ObjectRead (map-through member_json read_member member_told ms member-read i) (Some (record { name = tag.name; variants = map-through variant_json read_variant variant_told tag.variants variant-read i }))))
entry-read name (Alternate types features) = alternate-at name types features
    ∙ ap (λ (l : List (List ℕ)). named name (AlternateRead l)) (map-back alternative_json (λ (value : Json). text_at (codes "type") (members_of value)) types alternative-read)

pub call-read : (p : Parts) (call : Call) → read_item (call_json p call) ≡ []
call-read p (Command c) = simp (outs-Obj, outs-Str) refl
call-read p (Event e) = simp (outs-Obj, outs-Str) refl

-- a command as a client reads it; of an event none
abbrev pub told_of : Parts → Call → List CommandRead
told_of p (Command c) = command_told p c ∷ []
told_of p (Event e) = []

pub call-told : (p : Parts) (call : Call) → command_from (members_of (call_json p call)) ≡ told_of p call
call-told p (Command c) = simp (outs-Obj, outs-Str) refl
call-told p (Event e) = simp (outs-Obj, outs-Str) refl

pub no-command-told : (name : List ℕ) (entry : Entry) → command_from (members_of (entry_json name entry)) ≡ []
no-command-told name (Builtin type) = simp (outs-Obj, outs-Str) refl
no-command-told name (Enum values features) = simp (outs-Obj, outs-Str) refl
no-command-told name (Array e) = simp (outs-Obj, outs-Str) refl
no-command-told name (Object ms tag features) = simp (outs-Obj, outs-Str) refl
no-command-told name (Alternate types features) = simp (outs-Obj, outs-Str) refl
