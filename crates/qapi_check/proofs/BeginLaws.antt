-- A table begins with what stands first among its definitions.
use Rattle.std.proofs.Common.{◌≡◌, ◌+◌, ℕ, suc, Bool, List, [], ◌∷◌, ◌++◌, length, map, ap, ◌∙◌, arith, append_assoc}
use Rattle.std.specs.List.{enumerate_from, filter, flat_map}
use Rattle.std.proofs.lemmas.{Grind.flat_map-append, List.map-append, List.Elements.filter-append}
use Rattle.qapi_types.specs.declared.kind.Kind.{Kind}
use Rattle.qapi_define.specs.declared.definition.Definition.{Definition}
use Rattle.qapi_number.specs.declared.numbering.Numbering.{Numbering}
use Rattle.qapi_number.specs.Kinds.{builtin_kinds, implicit_kind, kind_defined}
use Rattle.qapi_number.specs.Numbering.{numbering_of}
use Rattle.qapi_number.specs.PartsOf.{calls_of, command_in, event_in, is_call_sort, parts_of}
use Rattle.qapi_number.specs.TypeNames.{is_type_sort, types_of}
use Rattle.qapi_check.specs.Beginning.{BeginsWith, first_kinds}

enumerate-append : {A : Type 0} (n : ℕ) (xs ys : List A) → enumerate_from n (xs ++ ys) ≡ enumerate_from n xs ++ enumerate_from (n + length xs) ys
enumerate-append n [] ys = let e : n ≡ n + 0 = omega arith in ap (λ (k : ℕ). enumerate_from k ys) e
enumerate-append {A} n (x ∷ xs) ys =
    let e : n + 1 + length xs ≡ n + suc (length xs) = omega arith in
    ap {A = List (ℕ × A)} (λ l. (n, x) ∷ l) (enumerate-append (n + 1) xs ys ∙ ap (λ (k : ℕ). enumerate_from (n + 1) xs ++ enumerate_from k ys) e)

abbrev is_call : ℕ × Definition → Bool
is_call e = is_call_sort e.1.sort

-- the calls of definitions that stand first are first
pub record Split (xs ys : List Definition) : Type 0 where
  pub later : List (ℕ × (ℕ × Definition))
  pub calls : calls_of (xs ++ ys) ≡ calls_of xs ++ later

calls-split : (xs ys : List Definition) → Split xs ys
calls-split xs ys = record {
  later = enumerate_from (0 + length (filter is_call (enumerate_from 0 xs))) (filter is_call (enumerate_from (0 + length xs) ys));
  calls =
      ap (λ l. enumerate_from 0 (filter is_call l)) (enumerate-append 0 xs ys)
      ∙ ap (λ l. enumerate_from 0 l) (filter-append is_call (enumerate_from 0 xs) (enumerate_from (0 + length xs) ys))
      ∙ enumerate-append 0 (filter is_call (enumerate_from 0 xs)) (filter is_call (enumerate_from (0 + length xs) ys));
}

module _ (xs ys : List Definition) where
  abbrev all : Numbering
  all = numbering_of (xs ++ ys)

  abbrev own : ℕ × Definition → Kind
  own e = kind_defined all e.1.sort e.0 e.1

  own-split : map own (enumerate_from 0 (types_of (xs ++ ys))) ≡ first_kinds all xs ++ map own (enumerate_from (0 + length (types_of xs)) (types_of ys))
  own-split =
      ap (λ l. map own (enumerate_from 0 l)) (filter-append (λ (d : Definition). is_type_sort d.sort) xs ys)
      ∙ ap (map own) (enumerate-append 0 (types_of xs) (types_of ys))
      ∙ map-append own (enumerate_from 0 (types_of xs)) (enumerate_from (0 + length (types_of xs)) (types_of ys))

  pub begins : BeginsWith xs all (parts_of (xs ++ ys))
  begins =
      let s : Split xs ys = calls-split xs ys in
      let more : List Kind = map own (enumerate_from (0 + length (types_of xs)) (types_of ys)) in
      let rest : List Kind = map (implicit_kind all (xs ++ ys)) all.implicit in
      record {
        rest = record {
          commands = flat_map (λ (e : ℕ × (ℕ × Definition)). command_in all e.1.1.sort e.0 e.1.0 e.1.1) s.later;
          events = flat_map (λ (e : ℕ × (ℕ × Definition)). event_in all e.1.1.sort e.0 e.1.0 e.1.1) s.later;
          kinds = (more ++ builtin_kinds) ++ rest;
        };
        commands =
            ap (flat_map (λ (e : ℕ × (ℕ × Definition)). command_in all e.1.1.sort e.0 e.1.0 e.1.1)) s.calls
            ∙ flat_map-append (λ (e : ℕ × (ℕ × Definition)). command_in all e.1.1.sort e.0 e.1.0 e.1.1) (calls_of xs) s.later;
        events =
            ap (flat_map (λ (e : ℕ × (ℕ × Definition)). event_in all e.1.1.sort e.0 e.1.0 e.1.1)) s.calls
            ∙ flat_map-append (λ (e : ℕ × (ℕ × Definition)). event_in all e.1.1.sort e.0 e.1.0 e.1.1) (calls_of xs) s.later;
        kinds =
            ap (λ l. (l ++ builtin_kinds) ++ rest) own-split
            ∙ ap (λ l. l ++ rest) (append_assoc (first_kinds all xs) more builtin_kinds)
            ∙ append_assoc (first_kinds all xs) (more ++ builtin_kinds) rest;
      }
