-- What a store holds once changes are committed.
use Rattle.std.proofs.Common.{◌≡◌, ℕ, ◌+◌, ◌-◌, ◌<◌, ◌≤◌, arith, Bool, true, false, cond, List, [], ◌∷◌, ◌++◌, length, get_or, take, Option, Some, None, option_map, unwrap_or, slice_get, Result, Ok, Err, refl, ap, sym, ◌∙◌, drop}
use Rattle.std.specs.{List.filter_map, List.list_any, Option.option_or, Str.bytes_eq}
use Rattle.std.proofs.lemmas.List.{drop_more, take_more}
use Rattle.qm_json.specs.declared.value.Json.{Json}
use Rattle.qm_plan.specs.declared.{changes.StoreChange.StoreChange, facts.Facts.Facts, applied.ApplyFault.ApplyFault, applied.Applied.Applied, recipes.Act.Act, recipes.Plan.Plan}
use Rattle.qm_plan.specs.declared.changes.StoreChange.TheVariants as change
use Rattle.qm_plan.specs.{Applying.act_of, Applying.acts_of, Applying.then_acts, Applying.applied_of, Applying.outcome_from, Applying.outcome_in, Applying.job_act_of, Applying.raised_of, Applying.enabled_by, Applying.is_quit, Templates.value_of}
use Rattle.qm_plan.specs.Stores.{Contents, Held, Count, cell_of, tally_of, changed, committed, newest, cell_in, tally_in}
use Rattle.qm_plan.proofs.Tables.{with-value-is}

-- a first value, where nothing newer is given
abbrev pub newer : {V : Type 0} → Option V → Option V → Option V
newer given first = option_map (λ f. unwrap_or given f) first

newer-none : {V : Type 0} (first : Option V) → newer None first ≡ first
newer-none None = refl
newer-none (Some f) = refl

newer-twice : {V : Type 0} (new old first : Option V) → newer new (newer old first) ≡ newer (option_or new old) first
newer-twice new old None = refl
newer-twice None old (Some f) = refl
newer-twice (Some v) old (Some f) = refl

newer-if : {V : Type 0} (b : Bool) (v : V) (first : Option V) → option_map (λ f. cond b v f) first ≡ newer (cond b (Some v) None) first
newer-if b v None = refl
newer-if true v (Some f) = refl
newer-if false v (Some f) = refl

cell-changed : (name : List ℕ) (c : StoreChange) (store : Contents) → cell_of name (changed c store) ≡ newer (cell_in name c) (cell_of name store)
cell-changed name (change.Cell other value) store =
    with-value-is {A = Held} (λ n. n) (λ n v. record { name = n; value = v }) (λ (h : Held). h.name) (λ (h : Held). h.value) (λ n v. refl) (λ n v. refl) other name value store.cells
    ∙ newer-if (bytes_eq other name) value (cell_of name store)
cell-changed name (change.Tally other count) store = sym (newer-none (cell_of name store))

tally-changed : (name : List ℕ) (c : StoreChange) (store : Contents) → tally_of name (changed c store) ≡ newer (tally_in name c) (tally_of name store)
tally-changed name (change.Cell other value) store = sym (newer-none (tally_of name store))
tally-changed name (change.Tally other count) store =
    with-value-is {A = Count} (λ n. n) (λ n v. record { name = n; count = v }) (λ (t : Count). t.name) (λ (t : Count). t.count) (λ n v. refl) (λ n v. refl) other name count store.tallies
    ∙ newer-if (bytes_eq other name) count (tally_of name store)

cell-committed : (name : List ℕ) (changes : List StoreChange) (store : Contents) → cell_of name (committed changes store) ≡ newer (newest (cell_in name) changes) (cell_of name store)
cell-committed name [] store = sym (newer-none (cell_of name store))
cell-committed name (c ∷ changes) store =
    cell-committed name changes (changed c store) ∙ ap (newer (newest (cell_in name) changes)) (cell-changed name c store) ∙ newer-twice (newest (cell_in name) changes) (cell_in name c) (cell_of name store)

tally-committed : (name : List ℕ) (changes : List StoreChange) (store : Contents) → tally_of name (committed changes store) ≡ newer (newest (tally_in name) changes) (tally_of name store)
tally-committed name [] store = sym (newer-none (tally_of name store))
tally-committed name (c ∷ changes) store =
    tally-committed name changes (changed c store) ∙ ap (newer (newest (tally_in name) changes)) (tally-changed name c store) ∙ newer-twice (newest (tally_in name) changes) (tally_in name c) (tally_of name store)

-- what a cell holds is what the newest change gave it, where the cell is there
pub cell-after : (name : List ℕ) (changes : List StoreChange) (store : Contents) (given first : Option Json) → given ≡ newest (cell_in name) changes → first ≡ cell_of name store →
    newer given first ≡ cell_of name (committed changes store)
cell-after name changes store given first g f = ap (λ o. newer o first) g ∙ ap (newer (newest (cell_in name) changes)) f ∙ sym (cell-committed name changes store)

pub tally-after : (name : List ℕ) (changes : List StoreChange) (store : Contents) (given first : Option ℕ) → given ≡ newest (tally_in name) changes → first ≡ tally_of name store →
    newer given first ≡ tally_of name (committed changes store)
tally-after name changes store given first g f = ap (λ o. newer o first) g ∙ ap (newer (newest (tally_in name) changes)) f ∙ sym (tally-committed name changes store)

or-thrice : {V : Type 0} (a b c : Option V) → option_or (option_or a b) c ≡ option_or a (option_or b c)
or-thrice None b c = refl
or-thrice (Some v) b c = refl

or-none : {V : Type 0} (a : Option V) → option_or a None ≡ a
or-none None = refl
or-none (Some v) = refl

-- one change more
newest-more : {V : Type 0} (given : StoreChange → Option V) (changes : List StoreChange) (c : StoreChange) → newest given (changes ++ c ∷ []) ≡ option_or (given c) (newest given changes)
newest-more given [] c = sym (or-none (given c))
newest-more given (d ∷ changes) c = ap (λ o. option_or o (given d)) (newest-more given changes c) ∙ or-thrice (given c) (newest given changes) (given d)

committed-more : (changes : List StoreChange) (c : StoreChange) (store : Contents) → committed (changes ++ c ∷ []) store ≡ changed c (committed changes store)
committed-more [] c store = refl
committed-more (d ∷ changes) c store = committed-more changes c (changed d store)

-- a change was noted behind the others
pub noted : (before after : List StoreChange) (c : StoreChange) (store : Contents) → after ≡ before ++ c ∷ [] → committed after store ≡ changed c (committed before store)
noted before after c store is = ap (λ (l : List StoreChange). committed l store) is ∙ committed-more before c store

-- one act more was done
pub act-step : (facts : Facts) (acts : List Act) (i : ℕ) (act : Act) (before after : Contents) (whole : Result Contents ApplyFault) → i < length acts → act ≡ get_or acts i act →
    act_of facts act before ≡ Ok after → acts_of facts (drop i acts) before ≡ whole → acts_of facts (drop (i + 1) acts) after ≡ whole
act-step facts acts i act before after whole low at done so =
    let rest : drop i acts ≡ act ∷ drop (i + 1) acts = drop_more acts i act low ∙ ap (λ (a : Act). a ∷ drop (i + 1) acts) (sym at) in
    let one : acts_of facts (drop i acts) before ≡ acts_of facts (drop (i + 1) acts) after = ap (λ (l : List Act). acts_of facts l before) rest ∙ ap (then_acts (acts_of facts (drop (i + 1) acts))) done in
    sym one ∙ so

-- an act failed
pub act-fails : (facts : Facts) (acts : List Act) (i : ℕ) (act : Act) (before : Contents) (fault : ApplyFault) (whole : Result Contents ApplyFault) → i < length acts → act ≡ get_or acts i act →
    act_of facts act before ≡ Err fault → acts_of facts (drop i acts) before ≡ whole → whole ≡ Err fault
act-fails facts acts i act before fault whole low at done so =
    let rest : drop i acts ≡ act ∷ drop (i + 1) acts = drop_more acts i act low ∙ ap (λ (a : Act). a ∷ drop (i + 1) acts) (sym at) in
    sym so ∙ ap (λ (l : List Act). acts_of facts l before) rest ∙ ap (then_acts (acts_of facts (drop (i + 1) acts))) done

newest-back : {V : Type 0} (given : StoreChange → Option V) (changes : List StoreChange) (end : ℕ) (c : StoreChange) → 0 < end → end ≤ length changes → c ≡ get_or changes (end - 1) c →
    newest given (take end changes) ≡ option_or (given c) (newest given (take (end - 1) changes))
newest-back given changes end c some low at =
    let whole : take end changes ≡ take (end - 1) changes ++ c ∷ [] =
    ap (λ (n : ℕ). take n changes) (omega arith) ∙ take_more changes (end - 1) c (omega arith) ∙ ap (λ (d : StoreChange). take (end - 1) changes ++ d ∷ []) (sym at) in
    ap (newest given) whole ∙ newest-more given (take (end - 1) changes) c

-- the last change gives something
pub newest-stops : {V : Type 0} (given : StoreChange → Option V) (changes : List StoreChange) (end : ℕ) (c : StoreChange) (v : V) → 0 < end → end ≤ length changes → c ≡ get_or changes (end - 1) c →
    Some v ≡ given c → newest given (take end changes) ≡ newest given changes → Some v ≡ newest given changes
newest-stops given changes end c v some low at gives so =
    ap (λ o. option_or o (newest given (take (end - 1) changes))) gives ∙ sym (newest-back given changes end c some low at) ∙ so

-- the last change gives nothing
pub newest-goes : {V : Type 0} (given : StoreChange → Option V) (changes : List StoreChange) (end : ℕ) (c : StoreChange) → 0 < end → end ≤ length changes → c ≡ get_or changes (end - 1) c →
    None ≡ given c → newest given (take end changes) ≡ newest given changes → newest given (take (end - 1) changes) ≡ newest given changes
newest-goes given changes end c some low at gives so =
    ap (λ o. option_or o (newest given (take (end - 1) changes))) gives ∙ sym (newest-back given changes end c some low at) ∙ so

-- what comes of a plan, part by part
pub outcome-is : (facts : Facts) (plan : Plan) (store : Contents) (applied : Applied) → acts_of facts plan.acts store ≡ Ok (committed applied.changes store) →
    applied.ret ≡ value_of facts (committed applied.changes store) plan.ret → applied.jobs ≡ filter_map (job_act_of facts (committed applied.changes store)) plan.acts →
    applied.raised ≡ filter_map (raised_of facts (committed applied.changes store)) plan.acts → applied.enable ≡ slice_get (filter_map enabled_by plan.acts) 0 →
    applied.quit ≡ list_any is_quit plan.acts → applied_of facts plan store ≡ Ok (outcome_in applied store)
outcome-is facts plan store applied acts ret jobs raised enable quit =
    ap (outcome_from facts plan) acts
    ∙ (λ i. Ok (record { ret = sym ret i; store = committed applied.changes store; jobs = sym jobs i; raised = sym raised i; enable = sym enable i; quit = sym quit i }))
