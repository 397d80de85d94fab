-- Which tokens spell a value: a grammar by cases (RFC 8259, sections 2 to 5; that names are
-- distinct is this project's own rule).
use Rattle.std.specs.Prelude.{◌≡◌, ℕ, ℤ, suc, Bool, false, List, [], ◌∷◌, ◌++◌}
use Rattle.qm_json.specs.{declared.value.Json.Json, declared.value.Member.Member, Members.has_name}
use Rattle.qm_json.specs.declared.value.Json.TheVariants as json
use Rattle.qm_read.specs.declared.token.Token.TheVariants as tokens
use Rattle.qm_read.specs.Tokens.{Placed, at}

mutual
  -- the tokens spell the value, in which at most so many brackets are open at a time
  pub data SpellsValue : ℕ → List Placed → Json → Type 0 where
    null : {d : ℕ} (p : ℕ) → SpellsValue d (at tokens.Null p ∷ []) json.Null
    bool : {d : ℕ} (b : Bool) (p : ℕ) → SpellsValue d (at (tokens.Bool b) p ∷ []) (json.Bool b)
    int : {d : ℕ} (n : ℤ) (p : ℕ) → SpellsValue d (at (tokens.Int n) p ∷ []) (json.Int n)
    num : {d : ℕ} (text : List ℕ) (p : ℕ) → SpellsValue d (at (tokens.Num text) p ∷ []) (json.Num text)
    string : {d : ℕ} (text : List ℕ) (p : ℕ) → SpellsValue d (at (tokens.Str text) p ∷ []) (json.Str text)
    no_items : {d : ℕ} (p q : ℕ) → SpellsValue (suc d) (at tokens.OpenArray p ∷ at tokens.CloseArray q ∷ []) (json.Arr [])
    array : {d : ℕ} {ts : List Placed} {items : List Json} (p q : ℕ) → SpellsItems d ts items →
        SpellsValue (suc d) (at tokens.OpenArray p ∷ ts ++ at tokens.CloseArray q ∷ []) (json.Arr items)
    no_members : {d : ℕ} (p q : ℕ) → SpellsValue (suc d) (at tokens.OpenObject p ∷ at tokens.CloseObject q ∷ []) (json.Obj [])
    object : {d : ℕ} {ts : List Placed} {members : List Member} (p q : ℕ) → SpellsMembers d ts members →
        SpellsValue (suc d) (at tokens.OpenObject p ∷ ts ++ at tokens.CloseObject q ∷ []) (json.Obj members)

  -- one value or more, with commas between them
  pub data SpellsItems : ℕ → List Placed → List Json → Type 0 where
    item : {d : ℕ} {t : List Placed} {v : Json} → SpellsValue d t v → SpellsItems d t (v ∷ [])
    more_items : {d : ℕ} {ts t : List Placed} {items : List Json} {v : Json} (p : ℕ) → SpellsItems d ts items → SpellsValue d t v →
        SpellsItems d (ts ++ at tokens.Comma p ∷ t) (items ++ v ∷ [])

  -- one member or more, with distinct names
  pub data SpellsMembers : ℕ → List Placed → List Member → Type 0 where
    member : {d : ℕ} {t : List Placed} {v : Json} (name : List ℕ) (p q : ℕ) → SpellsValue d t v →
        SpellsMembers d (at (tokens.Str name) p ∷ at tokens.Colon q ∷ t) (record { name = name; value = v } ∷ [])
    more_members : {d : ℕ} {ts t : List Placed} {members : List Member} {v : Json} (name : List ℕ) (o p q : ℕ) →
        SpellsMembers d ts members → has_name members name ≡ false → SpellsValue d t v →
        SpellsMembers d (ts ++ at tokens.Comma o ∷ at (tokens.Str name) p ∷ at tokens.Colon q ∷ t) (members ++ record { name = name; value = v } ∷ [])
