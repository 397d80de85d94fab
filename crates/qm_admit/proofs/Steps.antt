-- The steps of a walk, and what they tell.
use Rattle.std.proofs.Common.{◌≡◌, ◌<◌, ◌≤◌, ℕ, zero, suc, ◌+◌, ◌-◌, ◌||◌, Bool, true, false, cond, List, [], ◌∷◌, map, length, drop, take, refl, ap, sym, ◌∙◌, subst, arith, Option, Some, None, get_or, position, ◌++◌, append_assoc, codes}
use Rattle.std.specs.Prelude.{not}
use Rattle.std.specs.{Option.option_map, Option.option_or, List.list_any, Str.bytes_eq}
use Rattle.qm_json.specs.declared.value.{Json.Json, Json.out-Json, Member.Member, Json.TheOpen.Json-F}
use Rattle.qm_json.specs.declared.value.Json.TheOpen as layer
use Rattle.qm_json.specs.declared.value.Json.TheVariants as json
use Rattle.qm_json.specs.declared.value.Json.TheViews.{outs-Arr, outs-Obj}
use Rattle.qapi_types.specs.declared.kind.{JsonKind.JsonKind, Kind.Kind, MemberDef.MemberDef}
use Rattle.qapi_types.specs.declared.kind.Kind.TheVariants as kinds
use Rattle.qapi_types.specs.declared.kind.JsonKind.TheVariants as sorts
use Rattle.qapi_types.specs.Types.{kind_of, members_of, is_array, is_object, member_names}
use Rattle.qapi_types.proofs.TableLaws.{position-map}
use Rattle.qm_admit.specs.declared.verdict.{Fault.Fault, Fault.TheVariants.Unexpected, Fault.TheVariants.WrongKind}
use Rattle.qm_admit.specs.declared.path.{PathStep.PathStep, PathStep.TheVariants.Member as member_step, PathStep.TheVariants.Place}
use Rattle.qm_admit.specs.{Fitting.chosen, Views.kind_in}
use Rattle.qm_admit.specs.Misfits.{Misfit, Inner, NamedInner, here, inside, first_misfit, inner_of, walked_as, alternative_of, kind_misfit, items_misfit, members_misfit, given_misfit, place_in, types_misfit, choices_from, choices_of, unknown_misfit, object_misfit, is_known}
use Rattle.qm_admit.specs.Walks.{Tells, at_once, asked, inners, named_inner, place_of_name, plain_misfit, value_misfit, array_misfit, given_object_misfit, item_list_misfit, is_any}
use Rattle.qm_admit.specs.Paths.{step_text, steps_text, value_past}
use Rattle.qm_admit.proofs.Layers.{first-is, chosen-in}
use Rattle.qm_admit.proofs.Positions.{front, front-map, past-map, from-zero}

pub tells-nothing : {path : List PathStep} → path ≡ [] → Tells None None path
tells-nothing e = record { fault = refl; path = e }

pub tells-once : {found : Option Misfit} {path : List PathStep} (answer : Option Fault) → found ≡ at_once answer → path ≡ [] → Tells found answer path
tells-once {path = path} answer e p = subst (λ (o : Option Misfit). Tells o answer path) (sym e) (by_case answer p)
  where
    by_case : {path : List PathStep} (answer : Option Fault) → path ≡ [] → Tells (at_once answer) answer path
    by_case None p = record { fault = refl; path = p }
    by_case (Some fault) p = record { fault = refl; path = p }

pub as-told : {found other : Option Misfit} {fault : Option Fault} {path : List PathStep} → found ≡ other → Tells other fault path → Tells found fault path
as-told {fault = fault} {path = path} e t = subst (λ (o : Option Misfit). Tells o fault path) (sym e) t

none-told : {path : List PathStep} (found : Option Misfit) → Tells found None path → found ≡ None
none-told None t = refl
none-told (Some m) t = (let e : None ≡ Some m.fault = t.fault in absurd cc)

pub no-way : {found : Option Misfit} {path : List PathStep} → Tells found None path → path ≡ []
no-way {found} {path} t = by_case found t
  where
    by_case : (found : Option Misfit) → Tells found None path → path ≡ []
    by_case None t = t.path
    by_case (Some m) t = (let e : None ≡ Some m.fault = t.fault in absurd cc)

-- the fault of one inside
pub tells-inside : {path new : List PathStep} {fault : Fault} (step : PathStep) (found : Option Misfit) → Tells found (Some fault) path → new ≡ take 128 (step ∷ path) → Tells (inside step found) (Some fault) new
tells-inside step None t e = (let k : Some _ ≡ None = t.fault in absurd cc)
tells-inside step (Some m) t e = record { fault = t.fault; path = e ∙ ap (λ (p : List PathStep). take 128 (step ∷ p)) t.path }

-- the first of two that has a fault
pub tells-first : {path : List PathStep} {fault : Fault} (a b : Option Misfit) → Tells a (Some fault) path → Tells (option_or a b) (Some fault) path
tells-first None b t = (let k : Some _ ≡ None = t.fault in absurd cc)
tells-first (Some m) b t = t

passes : {path : List PathStep} (a b : Option Misfit) → Tells a None path → option_or a b ≡ b
passes None b t = refl
passes (Some m) b t = (let e : None ≡ Some m.fault = t.fault in absurd cc)

pub tells-second : {path other : List PathStep} {fault : Option Fault} (a b : Option Misfit) → Tells a None other → Tells b fault path → Tells (option_or a b) fault path
tells-second None b t u = u
tells-second (Some m) b t u = (let e : None ≡ Some m.fault = t.fault in absurd cc)

-- items
item-next : (table : List Kind) (e i : ℕ) (items : List Json) (x : Json) → i < length items → x ≡ get_or items i x →
    items_misfit e i (drop i (map (inner_of table) items)) ≡ option_or (inside (Place i) (first_misfit table e x)) (items_misfit e (i + 1) (drop (i + 1) (map (inner_of table) items)))
item-next table e i items x l is = ap (items_misfit e i) (front-map (inner_of table) items i x l is)

pub item-passes : (table : List Kind) (e i : ℕ) (items : List Json) (x : Json) {path : List PathStep} (whole : Option Misfit) → i < length items → x ≡ get_or items i x → whole ≡ items_misfit e i (drop i (map (inner_of table) items)) →
    Tells (first_misfit table e x) None path → whole ≡ items_misfit e (i + 1) (drop (i + 1) (map (inner_of table) items))
item-passes table e i items x {path} whole l is w t = w ∙ item-next table e i items x l is ∙ ap (λ (o : Option Misfit). option_or (inside (Place i) o) (items_misfit e (i + 1) (drop (i + 1) (map (inner_of table) items)))) (none-told (first_misfit table e x) t)

pub item-stops : (table : List Kind) (e i : ℕ) (items : List Json) (x : Json) {path new : List PathStep} {fault : Fault} (whole : Option Misfit) → i < length items → x ≡ get_or items i x → whole ≡ items_misfit e i (drop i (map (inner_of table) items)) →
    Tells (first_misfit table e x) (Some fault) path → new ≡ take 128 (Place i ∷ path) → Tells whole (Some fault) new
item-stops table e i items x whole l is w t n = as-told (w ∙ item-next table e i items x l is) (tells-first _ _ (tells-inside (Place i) (first_misfit table e x) t n))

pub items-end : (table : List Kind) (e i : ℕ) (items : List Json) {path : List PathStep} (whole : Option Misfit) → length items ≤ i → whole ≡ items_misfit e i (drop i (map (inner_of table) items)) → path ≡ [] → Tells whole None path
items-end table e i items whole l w p = as-told (w ∙ ap (items_misfit e i) (past-map (inner_of table) items i l)) (tells-nothing p)

-- members
pub place-is : (table : List Kind) (given : List Member) (name : List ℕ) → place_in (inners table given) name ≡ place_of_name given name
place-is table given name = position-map (named_inner table) (λ (x : NamedInner). bytes_eq x.name name) given ∙ from-zero (λ (m : Member). bytes_eq m.name name) given

member-next : (table : List Kind) (given : List Member) (t i : ℕ) (ms : List MemberDef) (m : MemberDef) (place : Option ℕ) → i < length ms → m ≡ get_or ms i m → place ≡ place_of_name given m.name →
    members_misfit (inners table given) t i (drop i ms) ≡ option_or (given_misfit (inners table given) t i m place) (members_misfit (inners table given) t (i + 1) (drop (i + 1) ms))
member-next table given t i ms m place l is e = ap (members_misfit (inners table given) t i) (front ms i m l is)
    ∙ ap (λ (o : Option ℕ). option_or (given_misfit (inners table given) t i m o) (members_misfit (inners table given) t (i + 1) (drop (i + 1) ms))) (place-is table given m.name ∙ sym e)

pub member-passes : (table : List Kind) (given : List Member) (t i : ℕ) (ms : List MemberDef) (m : MemberDef) (place : Option ℕ) {path : List PathStep} (whole : Option Misfit) → i < length ms → m ≡ get_or ms i m → place ≡ place_of_name given m.name →
    whole ≡ members_misfit (inners table given) t i (drop i ms) → Tells (given_misfit (inners table given) t i m place) None path → whole ≡ members_misfit (inners table given) t (i + 1) (drop (i + 1) ms)
member-passes table given t i ms m place whole l is e w u = w ∙ member-next table given t i ms m place l is e ∙ passes _ _ u

pub member-stops : (table : List Kind) (given : List Member) (t i : ℕ) (ms : List MemberDef) (m : MemberDef) (place : Option ℕ) {path : List PathStep} {fault : Fault} (whole : Option Misfit) → i < length ms → m ≡ get_or ms i m → place ≡ place_of_name given m.name →
    whole ≡ members_misfit (inners table given) t i (drop i ms) → Tells (given_misfit (inners table given) t i m place) (Some fault) path → Tells whole (Some fault) path
member-stops table given t i ms m place whole l is e w u = as-told (w ∙ member-next table given t i ms m place l is e) (tells-first _ _ u)

pub members-end : (table : List Kind) (given : List Member) (t i : ℕ) (ms : List MemberDef) {path : List PathStep} (whole : Option Misfit) → length ms ≤ i → whole ≡ members_misfit (inners table given) t i (drop i ms) → path ≡ [] → Tells whole None path
members-end table given t i ms whole l w p = as-told (w ∙ ap (members_misfit (inners table given) t i) (past ms i l)) (tells-nothing p)
  where
    past : (ms : List MemberDef) (i : ℕ) → length ms ≤ i → drop i ms ≡ []
    past [] zero l = refl
    past [] (suc i) l = refl
    past (m ∷ ms) zero l = absurd (omega arith)
    past (m ∷ ms) (suc i) l = past ms i (omega arith)

-- choices: k more at most
choices-next : (table : List Kind) (given : List Member) (n i t : ℕ) → i < n → choices_from (n - i) table (inners table given) (Some t) ≡ t ∷ choices_from (n - (i + 1)) table (inners table given) (chosen table given t)
choices-next table given n i t l = ap (λ (k : ℕ). choices_from k table (inners table given) (Some t)) (one-more n i l)
    ∙ ap (λ (o : Option ℕ). t ∷ choices_from (n - (i + 1)) table (inners table given) o) (chosen-in table given t)
  where
    one-more : (n i : ℕ) → i < n → n - i ≡ suc (n - (i + 1))
    one-more n i l = omega arith

pub no-choice : (table : List Kind) (g : List NamedInner) (k : ℕ) → choices_from k table g None ≡ []
no-choice table g zero = refl
no-choice table g (suc k) = refl

pub choice-passes : (table : List Kind) (given : List Member) (n i t : ℕ) (next : Option ℕ) {path : List PathStep} (whole : Option Misfit) → i < n → next ≡ chosen table given t → whole ≡ types_misfit table (inners table given) (choices_from (n - i) table (inners table given) (Some t)) →
    Tells (members_misfit (inners table given) t 0 (members_of (kind_of table t))) None path → whole ≡ types_misfit table (inners table given) (choices_from (n - (i + 1)) table (inners table given) next)
choice-passes table given n i t next whole l e w u = w ∙ ap (types_misfit table (inners table given)) (choices-next table given n i t l) ∙ passes _ _ u
    ∙ ap (λ (o : Option ℕ). types_misfit table (inners table given) (choices_from (n - (i + 1)) table (inners table given) o)) (sym e)

pub choice-stops : (table : List Kind) (given : List Member) (n i t : ℕ) {path : List PathStep} {fault : Fault} (whole : Option Misfit) → i < n → whole ≡ types_misfit table (inners table given) (choices_from (n - i) table (inners table given) (Some t)) →
    Tells (members_misfit (inners table given) t 0 (members_of (kind_of table t))) (Some fault) path → Tells whole (Some fault) path
choice-stops table given n i t whole l w u = as-told (w ∙ ap (types_misfit table (inners table given)) (choices-next table given n i t l)) (tells-first _ _ u)

pub choices-end : (table : List Kind) (given : List Member) (n i : ℕ) (next : Option ℕ) {path : List PathStep} (whole : Option Misfit) → n ≤ i → whole ≡ types_misfit table (inners table given) (choices_from (n - i) table (inners table given) next) → path ≡ [] → Tells whole None path
choices-end table given n i next whole l w p = as-told (w ∙ ap (λ (k : ℕ). types_misfit table (inners table given) (choices_from k table (inners table given) next)) (none-left n i l)) (tells-nothing p)
  where
    none-left : (n i : ℕ) → n ≤ i → n - i ≡ 0
    none-left n i l = omega arith

pub choices-stop : (table : List Kind) (given : List Member) (k : ℕ) {path : List PathStep} (whole : Option Misfit) → whole ≡ types_misfit table (inners table given) (choices_from k table (inners table given) None) → path ≡ [] → Tells whole None path
choices-stop table given k whole w p = as-told (w ∙ ap (types_misfit table (inners table given)) (no-choice table (inners table given) k)) (tells-nothing p)

-- whether a type of those that are chosen has a member of the name
pub known-next : (table : List Kind) (given : List Member) (n i t : ℕ) (next : Option ℕ) (name : List ℕ) (whole : Bool) → i < n → next ≡ chosen table given t → whole ≡ is_known table (choices_from (n - i) table (inners table given) (Some t)) name →
    (b : Bool) → b ≡ list_any (bytes_eq name) (member_names (kind_of table t)) → b ≡ false → whole ≡ is_known table (choices_from (n - (i + 1)) table (inners table given) next) name
known-next table given n i t next name whole l e w b is h = w ∙ ap (λ (types : List ℕ). is_known table types name) (choices-next table given n i t l) ∙ none (list_any (bytes_eq name) (member_names (kind_of table t))) _ (sym is ∙ h)
    ∙ ap (λ (o : Option ℕ). is_known table (choices_from (n - (i + 1)) table (inners table given) o) name) (sym e)
  where
    none : (a b : Bool) → a ≡ false → (a || b) ≡ b
    none false b h = refl
    none true b h = absurd cc

pub known-here : (table : List Kind) (given : List Member) (n i t : ℕ) (name : List ℕ) (whole : Bool) → i < n → whole ≡ is_known table (choices_from (n - i) table (inners table given) (Some t)) name →
    (b : Bool) → b ≡ list_any (bytes_eq name) (member_names (kind_of table t)) → b ≡ true → whole ≡ true
known-here table given n i t name whole l w b is h = w ∙ ap (λ (types : List ℕ). is_known table types name) (choices-next table given n i t l) ∙ some (list_any (bytes_eq name) (member_names (kind_of table t))) _ (sym is ∙ h)
  where
    some : (a b : Bool) → a ≡ true → (a || b) ≡ true
    some true b h = refl
    some false b h = absurd cc

pub known-end : (table : List Kind) (given : List Member) (n i : ℕ) (next : Option ℕ) (name : List ℕ) (whole : Bool) → n ≤ i → whole ≡ is_known table (choices_from (n - i) table (inners table given) next) name → whole ≡ false
known-end table given n i next name whole l w = w ∙ ap (λ (k : ℕ). is_known table (choices_from k table (inners table given) next) name) (none-left n i l)
  where
    none-left : (n i : ℕ) → n ≤ i → n - i ≡ 0
    none-left n i l = omega arith

pub known-stop : (table : List Kind) (given : List Member) (k : ℕ) (name : List ℕ) (whole : Bool) → whole ≡ is_known table (choices_from k table (inners table given) None) name → whole ≡ false
known-stop table given k name whole w = w ∙ ap (λ (types : List ℕ). is_known table types name) (no-choice table (inners table given) k)

-- one layer
array-else : (table : List Kind) (t : ℕ) (kind : Kind) (xs : List Inner) → is_array kind ≡ false → kind_misfit table t kind (layer.Json-F.Arr xs) ≡ cond (is_any kind) None (here WrongKind)
array-else table t (kinds.Array e) xs h = absurd cc
array-else table t kinds.Str xs h = refl
array-else table t kinds.Number xs h = refl
array-else table t (kinds.Whole whole) xs h = refl
array-else table t kinds.Bool xs h = refl
array-else table t kinds.Null xs h = refl
array-else table t kinds.Any xs h = refl
array-else table t (kinds.Enum values features) xs h = refl
array-else table t (kinds.Object def) xs h = refl
array-else table t (kinds.Alternate types features) xs h = refl

object-else : (table : List Kind) (t : ℕ) (kind : Kind) (g : List NamedInner) → is_object kind ≡ false → kind_misfit table t kind (layer.Json-F.Obj g) ≡ cond (is_any kind) None (here WrongKind)
object-else table t (kinds.Array e) g h = refl
object-else table t kinds.Str g h = refl
object-else table t kinds.Number g h = refl
object-else table t (kinds.Whole whole) g h = refl
object-else table t kinds.Bool g h = refl
object-else table t kinds.Null g h = refl
object-else table t kinds.Any g h = refl
object-else table t (kinds.Enum values features) g h = refl
object-else table t (kinds.Object def) g h = absurd cc
object-else table t (kinds.Alternate types features) g h = refl

object-as : (table : List Kind) (t : ℕ) (kind : Kind) (g : List NamedInner) → is_object kind ≡ true → kind_misfit table t kind (layer.Json-F.Obj g) ≡ object_misfit table g (choices_of table g t)
object-as table t (kinds.Array e) g h = absurd cc
object-as table t kinds.Str g h = absurd cc
object-as table t kinds.Number g h = absurd cc
object-as table t (kinds.Whole whole) g h = absurd cc
object-as table t kinds.Bool g h = absurd cc
object-as table t kinds.Null g h = absurd cc
object-as table t kinds.Any g h = absurd cc
object-as table t (kinds.Enum values features) g h = absurd cc
object-as table t (kinds.Object def) g h = refl
object-as table t (kinds.Alternate types features) g h = absurd cc

pub array-walked : (table : List Kind) (t e : ℕ) (items : List Json) {answer : Option Fault} {path : List PathStep} → kind_of table t ≡ kinds.Array e → Tells (item_list_misfit table e items) answer path → Tells (array_misfit table t items) answer path
unfolding plain_misfit
array-walked table t e items k u = as-told (ap (λ (kind : Kind). kind_misfit table t kind (layer.Json-F.Arr (map (inner_of table) items))) k) u

pub array-other : (table : List Kind) (t : ℕ) (items : List Json) (kind : Kind) {path : List PathStep} (answer : Option Fault) → is_array (kind_of table t) ≡ false → kind ≡ kind_of table t → at_once answer ≡ cond (is_any kind) None (here WrongKind) → path ≡ [] → Tells (array_misfit table t items) answer path
unfolding plain_misfit
array-other table t items kind answer n k e p = tells-once answer (array-else table t (kind_of table t) (map (inner_of table) items) n ∙ ap (λ (kind : Kind). cond (is_any kind) None (here WrongKind)) (sym k) ∙ sym e) p

pub object-other : (table : List Kind) (t : ℕ) (given : List Member) (kind : Kind) {path : List PathStep} (answer : Option Fault) → is_object (kind_of table t) ≡ false → kind ≡ kind_of table t → at_once answer ≡ cond (is_any kind) None (here WrongKind) → path ≡ [] → Tells (given_object_misfit table t given) answer path
unfolding plain_misfit
object-other table t given kind answer n k e p = tells-once answer (object-else table t (kind_of table t) (inners table given) n ∙ ap (λ (kind : Kind). cond (is_any kind) None (here WrongKind)) (sym k) ∙ sym e) p

pub object-stops : (table : List Kind) (t : ℕ) (given : List Member) {fault : Fault} {path : List PathStep} → is_object (kind_of table t) ≡ true → Tells (types_misfit table (inners table given) (choices_of table (inners table given) t)) (Some fault) path → Tells (given_object_misfit table t given) (Some fault) path
unfolding plain_misfit
object-stops table t given k u = as-told (object-as table t (kind_of table t) (inners table given) k) (tells-first _ _ u)

pub object-walked : (table : List Kind) (t : ℕ) (given : List Member) {answer : Option Fault} {old path : List PathStep} → is_object (kind_of table t) ≡ true → Tells (types_misfit table (inners table given) (choices_of table (inners table given) t)) None old → Tells (unknown_misfit table (inners table given) (choices_of table (inners table given) t)) answer path → Tells (given_object_misfit table t given) answer path
unfolding plain_misfit
object-walked table t given k u w = as-told (object-as table t (kind_of table t) (inners table given) k) (tells-second _ _ u w)

unknown-is : (table : List Kind) (given : List Member) (types : List ℕ) → unknown_misfit table (inners table given) types ≡ option_map (λ i. record { fault = Unexpected; path = member_step i ∷ [] }) (position (λ (x : Member). not (is_known table types x.name)) given)
unknown-is table given types = ap (option_map (λ i. record { fault = Unexpected; path = member_step i ∷ [] })) (position-map (named_inner table) (λ (x : NamedInner). not (is_known table types x.name)) given)

pub unknown-none : (table : List Kind) (given : List Member) (types : List ℕ) {path : List PathStep} → position (λ (x : Member). not (is_known table types x.name)) given ≡ None → path ≡ [] → Tells (unknown_misfit table (inners table given) types) None path
unknown-none table given types e p = as-told (unknown-is table given types ∙ ap (option_map (λ i. record { fault = Unexpected; path = member_step i ∷ [] })) e) (tells-nothing p)

pub unknown-some : (table : List Kind) (given : List Member) (types : List ℕ) (i : ℕ) {old new : List PathStep} → position (λ (x : Member). not (is_known table types x.name)) given ≡ Some i → old ≡ [] → new ≡ take 128 (member_step i ∷ old) → Tells (unknown_misfit table (inners table given) types) (Some Unexpected) new
unknown-some table given types i e o n = as-told (unknown-is table given types ∙ ap (option_map (λ i. record { fault = Unexpected; path = member_step i ∷ [] })) e) (record { fault = refl; path = n ∙ ap (λ (l : List PathStep). take 128 (member_step i ∷ l)) o })

pub value-once : (table : List Kind) (t : ℕ) (kind : Kind) (v : Json) (y : Json-F Json Member) {path : List PathStep} (answer : Option Fault) → kind ≡ kind_of table t → out-Json v ≡ y → kind_misfit table t kind (asked table y) ≡ at_once answer → path ≡ [] → Tells (value_misfit table t v) answer path
unfolding plain_misfit
value-once table t kind v y answer k o e p = tells-once answer (ap (λ (y : Json-F Json Member). kind_misfit table t (kind_of table t) (asked table y)) o ∙ ap (λ (kind : Kind). kind_misfit table t kind (asked table y)) (sym k) ∙ e) p

pub value-array : (table : List Kind) (t : ℕ) (v : Json) (items out : List Json) {answer : Option Fault} {path : List PathStep} → v ≡ json.Arr items → out ≡ items → Tells (array_misfit table t out) answer path → Tells (value_misfit table t v) answer path
unfolding asked
value-array table t v items out is same u = as-told (ap (λ (y : Json-F Json Member). plain_misfit table t (asked table y)) (ap out-Json is ∙ outs-Arr items) ∙ ap (array_misfit table t) (sym same)) u

pub value-object : (table : List Kind) (t : ℕ) (v : Json) (given out : List Member) {answer : Option Fault} {path : List PathStep} → v ≡ json.Obj given → out ≡ given → Tells (given_object_misfit table t out) answer path → Tells (value_misfit table t v) answer path
unfolding asked
value-object table t v given out is same u = as-told (ap (λ (y : Json-F Json Member). plain_misfit table t (asked table y)) (ap out-Json is ∙ outs-Obj given) ∙ ap (given_object_misfit table t) (sym same)) u

pub walked-some : (table : List Kind) (t : ℕ) (v : Json) (sort : JsonKind) (a : ℕ) {answer : Option Fault} {path : List PathStep} → sort ≡ kind_in (out-Json v) → alternative_of table sort t (kind_of table t) ≡ Some a → Tells (value_misfit table a v) answer path → Tells (first_misfit table t v) answer path
unfolding plain_misfit
walked-some table t v sort a s e u = as-told (first-is table t v ∙ ap (λ (o : Option ℕ). walked_as table o (asked table (out-Json v))) (ap (λ (sort : JsonKind). alternative_of table sort t (kind_of table t)) (sym s) ∙ e)) u

-- a path's text
pub path-next : (table : List Kind) (steps : List PathStep) (i : ℕ) (x : PathStep) (before after : List ℕ) (value next : Option Json) (whole text new : List ℕ) → i < length steps → x ≡ get_or steps i x → whole ≡ text ++ steps_text table before value (drop i steps) →
    new ≡ text ++ step_text table before value x → next ≡ value_past value x → after ≡ codes "." → whole ≡ new ++ steps_text table after next (drop (i + 1) steps)
path-next table steps i x before after value next whole text new l is w n v a = w ∙ ap (λ (s : List PathStep). text ++ steps_text table before value s) (front steps i x l is)
    ∙ sym (append_assoc text (step_text table before value x) (steps_text table (codes ".") (value_past value x) (drop (i + 1) steps)))
    ∙ (λ j. sym n j ++ steps_text table (sym a j) (sym v j) (drop (i + 1) steps))

pub empty-some : (table : List Kind) (t a : ℕ) (given : List Member) {answer : Option Fault} {path : List PathStep} → alternative_of table sorts.Object t (kind_of table t) ≡ Some a → given ≡ [] → Tells (given_object_misfit table a given) answer path → Tells (first_misfit table t (json.Obj [])) answer path
empty-some table t a given e g u = walked-some table t (json.Obj []) sorts.Object a (sym (ap kind_in (outs-Obj []))) e (value-object table a (json.Obj []) [] given refl g u)
