-- What is asked of the parts of a clean value.
use Rattle.std.proofs.Common.{◌≡◌, ℕ, Bool, true, false, ◌&&◌, cond, if◌then◌else◌, List, [], ◌∷◌, Option, Some, None, option_map, refl, ap, sym, ◌∙◌, bytes_eq}
use Rattle.std.specs.Prelude.{find, codes, option_and_then}
use Rattle.std.specs.List.{list_all}
use Rattle.std.proofs.lemmas.Bool.{and_parts}
use Rattle.qm_json.specs.declared.value.{Json.Json, Json.roll-Json, Json.out-Json, Member.Member, Json.TheOpen.Json-F}
use Rattle.qm_json.specs.declared.value.Json.TheVariants as json
use Rattle.qm_json.specs.declared.value.Json.TheOpen as layer
use Rattle.qm_json.specs.declared.value.Json.TheViews.{roll-out-Json}
use Rattle.qm_json.specs.declared.value.Json.TheVariants.{rolls-Arr, rolls-Obj}
use Rattle.qm_json.specs.Cleanness.{IsClean, are_distinct, is_clean, is_clean_member}
use Rattle.qm_json.specs.Members.{layer_members as members_in_layer, member_of, value_in}
use Rattle.qm_json.proofs.CleanLaws.{is_clean-Arr, is_clean-Obj, is_clean_member-is}
use Rattle.qm_bind.specs.Faults.{member_names}
use Rattle.qm_bind.specs.Parts.{FileParts, is_file_object, is_text, members_given, parts_from, parts_of, texts_given, texts_in}
use Rattle.qm_bind.specs.Recipes.{array_of, layer_items, layer_members, object_of}

as-object : (v : Json) (members : List Member) → out-Json v ≡ layer.Json-F.Obj members → v ≡ json.Obj members
as-object v members e = sym (roll-out-Json v) ∙ ap roll-Json e ∙ rolls-Obj members

pub object-is : (v : Json) (members : List Member) → object_of v ≡ Some members → v ≡ json.Obj members
object-is v members h = by_layer (out-Json v) refl h
  where
    by_layer : (y : Json-F Json Member) → out-Json v ≡ y → layer_members y ≡ Some members → v ≡ json.Obj members
    by_layer layer.Json-F.Null e h = absurd cc
    by_layer (layer.Json-F.Bool b) e h = absurd cc
    by_layer (layer.Json-F.Int n) e h = absurd cc
    by_layer (layer.Json-F.Num text) e h = absurd cc
    by_layer (layer.Json-F.Str bytes) e h = absurd cc
    by_layer (layer.Json-F.Arr items) e h = absurd cc
    by_layer (layer.Json-F.Obj given) e h = let s : given ≡ members = cc in as-object v members (e ∙ ap layer.Json-F.Obj s)

object-clean : (v : Json) (members : List Member) → is_clean v ≡ true → v ≡ json.Obj members → (are_distinct (member_names members) ≡ true) × (list_all is_clean_member members ≡ true)
object-clean v members h e =
    let k : (are_distinct (member_names members) && list_all is_clean_member members) ≡ true = sym (is_clean-Obj members) ∙ ap is_clean (sym e) ∙ h in
    and_parts (are_distinct (member_names members)) (list_all is_clean_member members) k

pub found-clean : (members : List Member) (name : List ℕ) (u : Json) → list_all is_clean_member members ≡ true → value_in members name ≡ Some u → is_clean u ≡ true
found-clean [] name u h e = absurd cc
found-clean (m ∷ members) name u h e = by_case (λ q. found-clean members name u parts.1 q) (bytes_eq m.name name) e
  where
    parts : (is_clean_member m ≡ true) × (list_all is_clean_member members ≡ true)
    parts = and_parts (is_clean_member m) (list_all is_clean_member members) h

    by_case : (value_in members name ≡ Some u → is_clean u ≡ true) → (b : Bool) → option_map (λ (m : Member). m.value) (cond b (Some m) (find (λ (x : Member). bytes_eq x.name name) members)) ≡ Some u → is_clean u ≡ true
    by_case more true e = let s : m.value ≡ u = cc in ap is_clean (sym s) ∙ (and_parts _ (is_clean m.value) (sym (is_clean_member-is m) ∙ parts.0)).1
    by_case more false e = more e

-- a member of a clean value is clean
pub member-clean : (v : Json) (name : List ℕ) (u : Json) → is_clean v ≡ true → member_of v name ≡ Some u → is_clean u ≡ true
member-clean v name u h e = by_layer (out-Json v) refl e
  where
    by_layer : (y : Json-F Json Member) → out-Json v ≡ y → value_in (members_in_layer y) name ≡ Some u → is_clean u ≡ true
    by_layer layer.Json-F.Null q e = absurd cc
    by_layer (layer.Json-F.Bool b) q e = absurd cc
    by_layer (layer.Json-F.Int n) q e = absurd cc
    by_layer (layer.Json-F.Num text) q e = absurd cc
    by_layer (layer.Json-F.Str bytes) q e = absurd cc
    by_layer (layer.Json-F.Arr items) q e = absurd cc
    by_layer (layer.Json-F.Obj members) q e = found-clean members name u (object-clean v members h (as-object v members q)).1 e

given-distinct : (o : Option Json) (members : List Member) → ((u : Json) → o ≡ Some u → is_clean u ≡ true) → members_given o ≡ Some members → are_distinct (member_names members) ≡ true
given-distinct None members clean e = let s : [] ≡ members = cc in ap (λ (ms : List Member). are_distinct (member_names ms)) (sym s)
given-distinct (Some u) members clean e = (object-clean u members (clean u refl) (object-is u members e)).0

-- where all four parts are there
pub record AreParts (cells : Option (List Member)) (tallies : Option (List Json)) (commands events : Option (List Member)) (file : FileParts) : Type 0 where
  pub of_cells : cells ≡ Some file.cells
  pub of_tallies : tallies ≡ Some file.tallies
  pub of_commands : commands ≡ Some file.commands
  pub of_events : events ≡ Some file.events

are-parts : (cells : Option (List Member)) (tallies : Option (List Json)) (commands events : Option (List Member)) (file : FileParts) → parts_from cells tallies commands events ≡ Some file → AreParts cells tallies commands events file
are-parts None tallies commands events file h = absurd cc
are-parts (Some a) None commands events file h = absurd cc
are-parts (Some a) (Some b) None events file h = absurd cc
are-parts (Some a) (Some b) (Some c) None file h = absurd cc
are-parts (Some a) (Some b) (Some c) (Some d) file h =
    let f : FileParts = record { cells = a; tallies = b; commands = c; events = d } in
    let e : f ≡ file = cc in
    record { of_cells = ap (λ (x : FileParts). Some x.cells) e; of_tallies = ap (λ (x : FileParts). Some x.tallies) e; of_commands = ap (λ (x : FileParts). Some x.commands) e; of_events = ap (λ (x : FileParts). Some x.events) e }

-- the parts that a value has
pub parts-of : (v : Json) (file : FileParts) → parts_of v ≡ Some file → AreParts (members_given (member_of v (codes "cells"))) (texts_given (member_of v (codes "tallies"))) (members_given (member_of v (codes "commands"))) (members_given (member_of v (codes "events"))) file
parts-of v file h = by_case (is_file_object v) h
  where
    by_case : (b : Bool) → (if b then parts_from (members_given (member_of v (codes "cells"))) (texts_given (member_of v (codes "tallies"))) (members_given (member_of v (codes "commands"))) (members_given (member_of v (codes "events"))) else None) ≡ Some file →
        AreParts (members_given (member_of v (codes "cells"))) (texts_given (member_of v (codes "tallies"))) (members_given (member_of v (codes "commands"))) (members_given (member_of v (codes "events"))) file
    by_case true h = are-parts _ _ _ _ file h
    by_case false h = absurd cc

-- no two recipes of a clean value are for one command
pub commands-distinct : (v : Json) (file : FileParts) → IsClean v → parts_of v ≡ Some file → are_distinct (member_names file.commands) ≡ true
commands-distinct v file h e = given-distinct (member_of v (codes "commands")) file.commands (λ u q. member-clean v (codes "commands") u h q) (parts-of v file e).of_commands

-- no two cells of a clean value have one name
pub cells-distinct : (v : Json) (file : FileParts) → IsClean v → parts_of v ≡ Some file → are_distinct (member_names file.cells) ≡ true
cells-distinct v file h e = given-distinct (member_of v (codes "cells")) file.cells (λ u q. member-clean v (codes "cells") u h q) (parts-of v file e).of_cells

-- a value by the items of its array
pub array-is : (v : Json) (items : List Json) → array_of v ≡ Some items → v ≡ json.Arr items
array-is v items h = by_layer (out-Json v) refl h
  where
    by_layer : (y : Json-F Json Member) → out-Json v ≡ y → layer_items y ≡ Some items → v ≡ json.Arr items
    by_layer layer.Json-F.Null e h = absurd cc
    by_layer (layer.Json-F.Bool b) e h = absurd cc
    by_layer (layer.Json-F.Int n) e h = absurd cc
    by_layer (layer.Json-F.Num t) e h = absurd cc
    by_layer (layer.Json-F.Str bytes) e h = absurd cc
    by_layer (layer.Json-F.Arr given) e h = let s : given ≡ items = cc in sym (roll-out-Json v) ∙ ap roll-Json (e ∙ ap layer.Json-F.Arr s) ∙ rolls-Arr items
    by_layer (layer.Json-F.Obj members) e h = absurd cc

-- the parts of an object that may be absent
given-clean : (o : Option Json) (members : List Member) → ((u : Json) → o ≡ Some u → is_clean u ≡ true) → members_given o ≡ Some members → list_all is_clean_member members ≡ true
given-clean None members clean e = let s : [] ≡ members = cc in ap (list_all is_clean_member) (sym s)
given-clean (Some u) members clean e = (object-clean u members (clean u refl) (object-is u members e)).1

texts-clean : (o : Option Json) (items : List Json) → ((u : Json) → o ≡ Some u → is_clean u ≡ true) → texts_given o ≡ Some items → list_all is_clean items ≡ true
texts-clean None items clean e = let s : [] ≡ items = cc in ap (list_all is_clean) (sym s)
texts-clean (Some u) items clean e = by_array (array_of u) refl e
  where
    by_texts : (given : List Json) → array_of u ≡ Some given → (b : Bool) → cond b (Some given) None ≡ Some items → list_all is_clean items ≡ true
    by_texts given q true e = let s : given ≡ items = cc in ap (list_all is_clean) (sym s) ∙ sym (is_clean-Arr given) ∙ ap is_clean (sym (array-is u given q)) ∙ clean u refl
    by_texts given q false e = absurd cc

    by_array : (o : Option (List Json)) → array_of u ≡ o → option_and_then texts_in o ≡ Some items → list_all is_clean items ≡ true
    by_array None q e = absurd cc
    by_array (Some given) q e = by_texts given q (list_all is_text given) e

pub commands-clean : (v : Json) (file : FileParts) → IsClean v → parts_of v ≡ Some file → list_all is_clean_member file.commands ≡ true
commands-clean v file h e = given-clean (member_of v (codes "commands")) file.commands (λ u q. member-clean v (codes "commands") u h q) (parts-of v file e).of_commands

pub cells-clean : (v : Json) (file : FileParts) → IsClean v → parts_of v ≡ Some file → list_all is_clean_member file.cells ≡ true
cells-clean v file h e = given-clean (member_of v (codes "cells")) file.cells (λ u q. member-clean v (codes "cells") u h q) (parts-of v file e).of_cells

pub tallies-clean : (v : Json) (file : FileParts) → IsClean v → parts_of v ≡ Some file → list_all is_clean file.tallies ≡ true
tallies-clean v file h e = texts-clean (member_of v (codes "tallies")) file.tallies (λ u q. member-clean v (codes "tallies") u h q) (parts-of v file e).of_tallies
