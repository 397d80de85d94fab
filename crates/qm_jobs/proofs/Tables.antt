-- Jobs as the entries of a map, and what its calls make of them.
use Rattle.std.proofs.Common.{◌≡◌, ℕ, suc, Bool, true, false, cond, ◌||◌, List, [], ◌∷◌, ◌++◌, length, map, find, flat_map, Some, None, option_map, is_some, refl, ap, sym, ◌∙◌, subst}
use Rattle.std.specs.List.{list_any, IsDistinct, AllByRecursion, AllZip}
use Rattle.std.specs.{Map.keys_of, Map.values_of, Map.lookup, Map.remove_entry, Map.set_value, Map.Calls.RetainsPairs, Str.bytes_eq}
use Rattle.std.proofs.lemmas.Slice.Eq.{bytes_eq-Decides}
use Rattle.qm_jobs.specs.{Changes.unit_changes, Listing.info_of, declared.changes.Change.Change, Jobs.Job, Jobs.has_id, Jobs.table_of}
use Rattle.qm_json.specs.declared.value.Json.{Json}
use Rattle.qm_jobs.specs.{States.is_running, States.stands, States.worked, Table.kept, Table.with_state, Table.state_of}
use Rattle.qm_jobs.specs.declared.state.JobState.{JobState}

pub same-items : (xs ys : List ℕ) → AllZip (λ x y. y ≡ x) xs ys → ys ≡ xs
same-items [] [] same = refl
same-items [] (y ∷ ys) same = absurd same
same-items (x ∷ xs) [] same = absurd same
same-items (x ∷ xs) (y ∷ ys) same = (let rest = same-items xs ys same.1 in λ i. same.0 i ∷ rest i)

module _ {K : Type 0} (id_of : K → List ℕ) where
  abbrev Entries : Type 0
  Entries = List (K × JobState)

  -- the key of an entry is the id
  abbrev is_for : List ℕ → K → Bool
  is_for id key = bytes_eq id (id_of key)

  abbrev same_key : K → K → Bool
  same_key x y = bytes_eq (id_of x) (id_of y)

  pub any-running : (es : Entries) → list_any (λ job. is_running job.state) (table_of id_of es) ≡ list_any is_running (values_of es)
  any-running [] = refl
  any-running (e ∷ es) = ap (λ (b : Bool). is_running e.1 || b) (any-running es)

  pub table-changes : (es : Entries) → flat_map (λ job. unit_changes job.id job.state) (table_of id_of es) ≡ flat_map (λ e. unit_changes (id_of e.0) e.1) es
  table-changes [] = refl
  table-changes (e ∷ es) = ap (λ (t : List Change). unit_changes (id_of e.0) e.1 ++ t) (table-changes es)

  pub table-infos : (es : Entries) → map info_of (table_of id_of es) ≡ map (λ e. info_of (record { id = id_of e.0; state = e.1 })) es
  table-infos [] = refl
  table-infos (e ∷ es) = ap (λ (t : List Json). info_of (record { id = id_of e.0; state = e.1 }) ∷ t) (table-infos es)

  pub length-table : (es : Entries) → length (table_of id_of es) ≡ length es
  length-table [] = refl
  length-table (e ∷ es) = ap suc (length-table es)

  pub table-push : (es : Entries) (key : K) (state : JobState) → table_of id_of (es ++ (key, state) ∷ []) ≡ table_of id_of es ++ record { id = id_of key; state = state } ∷ []
  table-push [] key state = refl
  table-push (e ∷ es) key state = ap (λ (t : List Job). record { id = id_of e.0; state = e.1 } ∷ t) (table-push es key state)

  pub found : (id : List ℕ) (es : Entries) → lookup (is_for id) es ≡ state_of id (table_of id_of es)
  found id [] = refl
  found id (e ∷ es) = either (is_for id e.0) (found id es) where
    either : (b : Bool) → lookup (is_for id) es ≡ state_of id (table_of id_of es) →
        cond b (Some e.1) (lookup (is_for id) es) ≡ option_map (λ job. job.state) (cond b (Some (record { id = id_of e.0; state = e.1 })) (find (has_id id) (table_of id_of es)))
    either true more = refl
    either false more = more

  pub has : (id : List ℕ) (es : Entries) → is_some (lookup (is_for id) es) ≡ list_any (has_id id) (table_of id_of es)
  has id [] = refl
  has id (e ∷ es) = either (is_for id e.0) (has id es) where
    either : (b : Bool) → is_some (lookup (is_for id) es) ≡ list_any (has_id id) (table_of id_of es) →
        is_some (cond b (Some e.1) (lookup (is_for id) es)) ≡ (b || list_any (has_id id) (table_of id_of es))
    either true more = refl
    either false more = more

  pub none-has : (id : List ℕ) (es : Entries) → list_any (has_id id) (table_of id_of es) ≡ false → lookup (is_for id) es ≡ None
  none-has id [] none = refl
  none-has id (e ∷ es) none = either (is_for id e.0) none (none-has id es) where
    either : (b : Bool) → (b || list_any (has_id id) (table_of id_of es)) ≡ false → (list_any (has_id id) (table_of id_of es) ≡ false → lookup (is_for id) es ≡ None) → cond b (Some e.1) (lookup (is_for id) es) ≡ None
    either true none more = absurd cc
    either false none more = more none

  pub set-none : (id : List ℕ) (state : JobState) (es : Entries) → lookup (is_for id) es ≡ None → set_value (is_for id) es state ≡ es
  set-none id state [] none = refl
  set-none id state (e ∷ es) none = either (is_for id e.0) none (set-none id state es) where
    either : (b : Bool) → cond b (Some e.1) (lookup (is_for id) es) ≡ None → (lookup (is_for id) es ≡ None → set_value (is_for id) es state ≡ es) → cond b ((e.0, state) ∷ es) (e ∷ set_value (is_for id) es state) ≡ e ∷ es
    either true none more = absurd cc
    either false none more = ap (λ (t : Entries). e ∷ t) (more none)

  same-others : (id : List ℕ) (state : JobState) (es : Entries) → AllByRecursion (λ key. is_for id key ≡ false) (keys_of es) → with_state id state (table_of id_of es) ≡ table_of id_of es
  same-others id state [] others = refl
  same-others id state (e ∷ es) others = rw others.0 (ap (λ (t : List Job). record { id = id_of e.0; state = e.1 } ∷ t) (same-others id state es others.1))

  no-other : (id : List ℕ) (key : K) (keys : List K) → is_for id key ≡ true → AllByRecursion (λ y. same_key key y ≡ false) keys → AllByRecursion (λ y. is_for id y ≡ false) keys
  no-other id key keys is others =
      subst (λ (i : List ℕ). AllByRecursion (λ y. bytes_eq i (id_of y) ≡ false) keys) (sym ((bytes_eq-Decides id (id_of key)).0 is)) others

  pub table-set : (id : List ℕ) (state : JobState) (es : Entries) → stands state ≡ true → IsDistinct same_key (keys_of es) →
      table_of id_of (set_value (is_for id) es state) ≡ with_state id state (table_of id_of es)
  unfolding IsDistinct
  table-set id state [] there once = refl
  table-set id state (e ∷ es) there once = either (is_for id e.0) refl (table-set id state es there once.1) where
    either : (b : Bool) → is_for id e.0 ≡ b → table_of id_of (set_value (is_for id) es state) ≡ with_state id state (table_of id_of es) →
        table_of id_of (cond b ((e.0, state) ∷ es) (e ∷ set_value (is_for id) es state))
        ≡ cond b (kept (record { id = id_of e.0; state = state })) (record { id = id_of e.0; state = e.1 } ∷ []) ++ with_state id state (table_of id_of es)
    either true is more =
        ap (λ (t : List Job). record { id = id_of e.0; state = state } ∷ t) (sym (same-others id state es (no-other id e.0 (keys_of es) is once.0)))
        ∙ ap (λ (b : Bool). cond b (record { id = id_of e.0; state = state } ∷ []) [] ++ with_state id state (table_of id_of es)) (sym there)
    either false is more = ap (λ (t : List Job). record { id = id_of e.0; state = e.1 } ∷ t) more

  pub table-remove : (id : List ℕ) (state : JobState) (es : Entries) → stands state ≡ false → IsDistinct same_key (keys_of es) →
      table_of id_of (remove_entry (is_for id) (set_value (is_for id) es state)) ≡ with_state id state (table_of id_of es)
  unfolding IsDistinct
  table-remove id state [] gone once = refl
  table-remove id state (e ∷ es) gone once = either (is_for id e.0) refl refl (table-remove id state es gone once.1) where
    either : (b : Bool) → is_for id e.0 ≡ b → is_for id e.0 ≡ b → table_of id_of (remove_entry (is_for id) (set_value (is_for id) es state)) ≡ with_state id state (table_of id_of es) →
        table_of id_of (remove_entry (is_for id) (cond b ((e.0, state) ∷ es) (e ∷ set_value (is_for id) es state)))
        ≡ cond b (kept (record { id = id_of e.0; state = state })) (record { id = id_of e.0; state = e.1 } ∷ []) ++ with_state id state (table_of id_of es)
    either true is here more =
        ap (λ (b : Bool). table_of id_of (cond b es ((e.0, state) ∷ remove_entry (is_for id) es))) here
        ∙ sym (same-others id state es (no-other id e.0 (keys_of es) is once.0))
        ∙ ap (λ (b : Bool). cond b (record { id = id_of e.0; state = state } ∷ []) [] ++ with_state id state (table_of id_of es)) (sym gone)
    either false is here more =
        ap (λ (b : Bool). table_of id_of (cond b (set_value (is_for id) es state) (e ∷ remove_entry (is_for id) (set_value (is_for id) es state)))) here
        ∙ ap (λ (t : List Job). record { id = id_of e.0; state = e.1 } ∷ t) more

  -- a copy of each entry
  pub table-copied : (C : K → K → Type 0) (D : JobState → JobState → Type 0) → ((x y : K) → C x y → id_of y ≡ id_of x) → ((x y : JobState) → D x y → y ≡ x) →
      (es fs : Entries) → AllZip (λ p q. C p.0 q.0 × D p.1 q.1) es fs → table_of id_of fs ≡ table_of id_of es
  table-copied C D keys states [] [] same = refl
  table-copied C D keys states [] (f ∷ fs) same = absurd same
  table-copied C D keys states (e ∷ es) [] same = absurd same
  table-copied C D keys states (e ∷ es) (f ∷ fs) same =
      let id = keys e.0 f.0 same.0.0 in
      let state = states e.1 f.1 same.0.1 in
      let rest = table-copied C D keys states es fs same.1 in
      λ i. record { id = id i; state = state i } ∷ rest i

  -- each entry works, and stays where it stands
  pub table-retained : {F : Type 0} (T : F → K → JobState → Bool → JobState → F → Type 0) (f : F) →
      ((k : K) (v : JobState) (b : Bool) (w : JobState) (g : F) → T f k v b w g → (b ≡ stands (worked v)) × (w ≡ worked v) × (g ≡ f)) →
      (es left : Entries) → RetainsPairs T f es left → table_of id_of left ≡ flat_map (λ job. kept (record job { state = worked job.state })) (table_of id_of es)
  table-retained T f says [] left h = ap (table_of id_of) h
  table-retained T f says (e ∷ es) left h =
      let s = says e.0 e.1 h.0 h.1 h.2 h.4 in
      let rest = table-retained T f says es h.3 (subst (λ g. RetainsPairs T g es h.3) s.2 h.5) in
      ap (table_of id_of) (h.6 ∙ (λ j. cond (s.0 j) ((e.0, s.1 j) ∷ h.3) h.3)) ∙ either (stands (worked e.1)) h.3 rest where
        either : (b : Bool) (rest : Entries) → table_of id_of rest ≡ flat_map (λ job. kept (record job { state = worked job.state })) (table_of id_of es) →
            table_of id_of (cond b ((e.0, worked e.1) ∷ rest) rest)
            ≡ cond b (record { id = id_of e.0; state = worked e.1 } ∷ []) [] ++ flat_map (λ job. kept (record job { state = worked job.state })) (table_of id_of es)
        either true rest more = ap (λ (t : List Job). record { id = id_of e.0; state = worked e.1 } ∷ t) more
        either false rest more = more
