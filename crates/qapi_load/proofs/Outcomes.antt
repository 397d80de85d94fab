-- Files that are open, one more or one fewer.
use Rattle.std.proofs.Common.{◌≡◌, ◌<◌, ◌-◌, ℕ, suc, List, [], ◌∷◌, ◌++◌, length, Result, Ok, Err, refl, ap, sym, ◌∙◌, arith, zero, length-append, lit<}
use Rattle.qapi_load.specs.{Files.NamedText, Files.text_of, declared.fault.LoadFault.LoadFault, declared.fault.TheConstants.MOST_FILES}
use Rattle.qapi_load.specs.declared.{loading.Loading.Loading, open_file.OpenFile.OpenFile, open_file.Wanted.Wanted, source.Source.Source, reading.Place.Place, reading.Reading.Reading}
use Rattle.qapi_load.specs.Loading.{on, after_expressions, after_file, begin, finish, nothing_read, parsed, sources_of}
use Rattle.qapi_load.specs.Steps.{Read, all_closed, closed, depth_left, left_in, outcome_of, outcome_with}

pub on-on : {A B C : Type 0} (x : Result A LoadFault) (f : A → Result B LoadFault) (g : B → Result C LoadFault) →
    on (on x f) g ≡ on x (λ a. on (f a) g)
on-on (Ok x) f g = refl
on-on (Err fault) f g = refl

-- one file more is open, inside the others
pub all_closed-more : (n : ℕ) (told : List NamedText) (files : List OpenFile) (file : OpenFile) (before : Result Reading LoadFault) →
    all_closed n told (files ++ file ∷ []) before ≡ all_closed n told files (closed (n - length files) told file before)
all_closed-more n told [] file before = ap (λ (k : ℕ). closed k told file before) (omega arith)
all_closed-more n told (f ∷ files) file before =
    ap (closed n told f) (all_closed-more (n - 1) told files file before
    ∙ ap (λ (k : ℕ). all_closed (n - 1) told files (closed k told file before)) (omega arith))

pub all_closed-fault : (n : ℕ) (told : List NamedText) (files : List OpenFile) (fault : LoadFault) →
    all_closed n told files (Err fault) ≡ Err fault
all_closed-fault n told [] fault = refl
all_closed-fault n told (f ∷ files) fault = ap (closed n told f) (all_closed-fault (n - 1) told files fault)

abbrev sources_in : Result Reading LoadFault → Result (List Source) LoadFault
sources_in r = on r (λ (r : Reading). Ok r.sources)

-- a file was read to its end, and the one that includes it goes on
pub closes : (told : List NamedText) (l next : Loading) → left_in l.file ≡ [] → next.reading ≡ finish l.reading l.file.name →
    l.outer.items ≡ next.outer.items ++ next.file ∷ [] → outcome_of told l ≡ outcome_of told next
closes told l next end reading outer =
    let n = MOST_FILES - 1 in
    rw (end, outer) (ap sources_in (all_closed-more n told next.outer.items next.file (Ok (finish l.reading l.file.name)))
    ∙ ap (λ (r : Reading). sources_in (all_closed n told next.outer.items (closed (n - length next.outer.items) told next.file (Ok r)))) (sym reading))

-- the file has a fault
pub faulty : (told : List NamedText) (l : Loading) (fault : LoadFault) →
    ((read : Read) → after_expressions read l.file.name l.reading (left_in l.file) ≡ Err fault) → outcome_of told l ≡ Err fault
faulty told l fault here =
    rw (here (after_file (depth_left l) told)) (ap sources_in (all_closed-fault (MOST_FILES - 1) told l.outer.items fault))

-- a file is read that has a fault
after_file-fault : (n : ℕ) (told : List NamedText) (r : Reading) (place : Place) (name : List ℕ) (fault : LoadFault) → 0 < n →
    parsed place name (text_of name told) ≡ Err fault → after_file n told r place name ≡ Err fault
unfolding after_file
after_file-fault zero told r place name fault room here = absurd (omega arith)
after_file-fault (suc n) told r place name fault room here = rw here refl

-- a file is read that has these expressions
after_file-opened : (n : ℕ) (told : List NamedText) (r : Reading) (file : OpenFile) (w : Wanted) → 0 < n → file.name ≡ w.name →
    parsed w.place w.name (text_of w.name told) ≡ Ok (left_in file) →
    after_file n told r w.place w.name ≡ closed (n - 1) told file (Ok (begin r w.name))
unfolding after_file
after_file-opened zero told r file w room named here = absurd (omega arith)
after_file-opened (suc n) told r file w room named here =
    rw (here, named) (ap (λ (k : ℕ). on (after_expressions (after_file k told) w.name (begin r w.name) (left_in file)) (λ (next : Reading). Ok (finish next w.name))) (omega arith))

-- a file that is read next has a fault
pub faulty_next : (told : List NamedText) (l : Loading) (w : Wanted) (fault : LoadFault) → 0 < depth_left l →
    parsed w.place w.name (text_of w.name told) ≡ Err fault → outcome_with told l w ≡ Err fault
faulty_next told l w fault room here =
    rw (after_file-fault (depth_left l) told l.reading w.place w.name fault room here)
    (ap sources_in (all_closed-fault (MOST_FILES - 1) told l.outer.items fault))

-- a file that is read next was opened
pub opens : (told : List NamedText) (l next : Loading) (w : Wanted) → 0 < depth_left l → next.file.name ≡ w.name →
    parsed w.place w.name (text_of w.name told) ≡ Ok (left_in next.file) → next.reading ≡ begin l.reading w.name →
    next.outer.items ≡ l.outer.items ++ l.file ∷ [] → outcome_with told l w ≡ outcome_of told next
opens told l next w room named here reading outer =
    let n = MOST_FILES - 1 in
    let file = next.file in
    let depth : depth_left l - 1 ≡ depth_left next = omega (arith, length-append {A = OpenFile}, ap length outer) in
    let inner : after_file (depth_left l) told l.reading w.place w.name ≡ closed (depth_left next) told file (Ok next.reading) =
    after_file-opened (depth_left l) told l.reading file w room named here
    ∙ ap (λ (k : ℕ). closed k told file (Ok (begin l.reading w.name))) depth
    ∙ ap (λ (r : Reading). closed (depth_left next) told file (Ok r)) (sym reading) in
    ap (λ (b : Result Reading LoadFault). sources_in (all_closed n told l.outer.items (closed (depth_left l) told l.file b))) inner
    ∙ sym (ap (λ (files : List OpenFile). sources_in (all_closed n told files (closed (depth_left next) told file (Ok next.reading)))) outer
    ∙ ap sources_in (all_closed-more n told l.outer.items l.file (closed (depth_left next) told file (Ok next.reading))))

-- the main file has a fault
pub main_faulty : (told : List NamedText) (main : List ℕ) (fault : LoadFault) →
    parsed (record { file = main; line = 0 }) main (text_of main told) ≡ Err fault → sources_of told main ≡ Err fault
unfolding sources_of
main_faulty told main fault here =
    ap sources_in (after_file-fault MOST_FILES told nothing_read (record { file = main; line = 0 }) main fault (lit< tt) here)

-- the main file was opened
pub main_opens : (told : List NamedText) (l : Loading) (main : List ℕ) → l.file.name ≡ main →
    parsed (record { file = main; line = 0 }) main (text_of main told) ≡ Ok (left_in l.file) → l.reading ≡ begin nothing_read main →
    l.outer.items ≡ [] → sources_of told main ≡ outcome_of told l
unfolding sources_of
main_opens told l main named here reading outer =
    ap sources_in (after_file-opened MOST_FILES told nothing_read l.file (record { place = record { file = main; line = 0 }; name = main }) (lit< tt) named here
    ∙ ap (λ (r : Reading). closed (MOST_FILES - 1) told l.file (Ok r)) (sym reading))
    ∙ sym (rw outer refl)
