-- The first definition of a type that clashes.
use Rattle.std.proofs.Common.{◌≡◌, ◌<◌, ◌≤◌, ◌+◌, ℕ, true, false, cond, List, [], ◌∷◌, ◌++◌, length, take, drop, get_or, Option, Some, None, sym, ap, ◌∙◌, arith}
use Rattle.std.specs.{List.filter, Option.option_or}
use Rattle.std.proofs.lemmas.List.{append-nil, drop_all, drop_more, Elements.filter_more, length-append}
use Rattle.qapi_define.specs.declared.definition.Definition.{Definition}
use Rattle.qapi_rules.specs.{Blames.fault, Blames.over, declared.fault.CheckFault.CheckFault, declared.fault.CheckRule.TheVariants.MemberClash}
use Rattle.qapi_types.specs.Choices.{Table}
use Rattle.qapi_check.specs.Clashes.{clash_of, clashes_rule, clashes_pass, defines_type}

-- the definitions before a place are judged, so many of them of types
pub record AreJudged (t : Table) (definitions : List Definition) (i n : ℕ) : Type 0 where
  pub few : n ≤ i
  pub number : n ≡ length (filter defines_type (take i definitions))
  pub rest : over (clashes_rule t) [] (filter defines_type definitions) ≡ over (clashes_rule t) (filter defines_type (take i definitions)) (filter defines_type (drop i definitions))

over-same : {A : Type 0} (rule : List Definition → Definition → Option A) (before ds es : List Definition) → ds ≡ es → over rule before ds ≡ over rule before es
over-same rule before ds es e = ap (over rule before) e

rest-is : (definitions : List Definition) (i : ℕ) (d x : Definition) → i < length definitions → x ≡ get_or definitions i d → filter defines_type (drop i definitions) ≡ cond (defines_type x) (x ∷ filter defines_type (drop (i + 1) definitions)) (filter defines_type (drop (i + 1) definitions))
rest-is definitions i d x l e = rw e (ap (filter defines_type) (drop_more definitions i d l))

more-is : (definitions : List Definition) (i : ℕ) (d x : Definition) → i < length definitions → x ≡ get_or definitions i d → filter defines_type (take (i + 1) definitions) ≡ filter defines_type (take i definitions) ++ cond (defines_type x) (x ∷ []) []
more-is definitions i d x l e = rw e (filter_more defines_type definitions i d l)

module _ (t : Table) (definitions : List Definition) (i n : ℕ) (d x : Definition) where
  judged : (o : Option (List ℕ)) → AreJudged t definitions i n → i < length definitions → x ≡ get_or definitions i d → defines_type x ≡ true → over (clashes_rule t) [] (filter defines_type definitions) ≡ option_or (fault MemberClash x (clash_of t n)) (over (clashes_rule t) (filter defines_type (take i definitions) ++ x ∷ []) (filter defines_type (drop (i + 1) definitions)))
  judged o w l e p =
      w.rest ∙ ap (over (clashes_rule t) (filter defines_type (take i definitions))) (rest-is definitions i d x l e ∙ ap (λ b. cond b (x ∷ filter defines_type (drop (i + 1) definitions)) (filter defines_type (drop (i + 1) definitions))) p)
      ∙ ap (λ k. option_or (fault MemberClash x (clash_of t k)) (over (clashes_rule t) (filter defines_type (take i definitions) ++ x ∷ []) (filter defines_type (drop (i + 1) definitions)))) (sym w.number)

  -- a definition clashes
  pub among_found : (b : CheckFault) → AreJudged t definitions i n → i < length definitions → x ≡ get_or definitions i d → defines_type x ≡ true → Some b ≡ fault MemberClash x (clash_of t n) → Some b ≡ clashes_pass t definitions
  unfolding clashes_pass
  among_found b w l e p h = sym (judged None w l e p ∙ ap (λ o. option_or o (over (clashes_rule t) (filter defines_type (take i definitions) ++ x ∷ []) (filter defines_type (drop (i + 1) definitions)))) (sym h))

  -- it does not
  pub among_on : AreJudged t definitions i n → i < length definitions → x ≡ get_or definitions i d → defines_type x ≡ true → None ≡ fault MemberClash x (clash_of t n) → AreJudged t definitions (i + 1) (n + 1)
  among_on w l e p h =
      let m : filter defines_type (take (i + 1) definitions) ≡ filter defines_type (take i definitions) ++ x ∷ [] = more-is definitions i d x l e ∙ ap (λ b. filter defines_type (take i definitions) ++ cond b (x ∷ []) []) p in
      record {
        few = omega (arith, w.few);
        number = omega (arith, w.number, ap length m, length-append (filter defines_type (take i definitions)) (x ∷ []));
        rest = judged None w l e p ∙ ap (λ o. option_or o (over (clashes_rule t) (filter defines_type (take i definitions) ++ x ∷ []) (filter defines_type (drop (i + 1) definitions)))) (sym h) ∙ ap (λ k. over (clashes_rule t) k (filter defines_type (drop (i + 1) definitions))) (sym m);
      }

  -- it defines no type
  pub among_past : AreJudged t definitions i n → i < length definitions → x ≡ get_or definitions i d → defines_type x ≡ false → AreJudged t definitions (i + 1) n
  among_past w l e p =
      let m : filter defines_type (take (i + 1) definitions) ≡ filter defines_type (take i definitions) = more-is definitions i d x l e ∙ ap (λ b. filter defines_type (take i definitions) ++ cond b (x ∷ []) []) p ∙ append-nil (filter defines_type (take i definitions)) in
      record {
        few = omega (arith, w.few);
        number = w.number ∙ ap length (sym m);
        rest = w.rest ∙ ap (over (clashes_rule t) (filter defines_type (take i definitions))) (rest-is definitions i d x l e ∙ ap (λ b. cond b (x ∷ filter defines_type (drop (i + 1) definitions)) (filter defines_type (drop (i + 1) definitions))) p) ∙ ap (λ k. over (clashes_rule t) k (filter defines_type (drop (i + 1) definitions))) (sym m);
      }

pub among_none : (t : Table) (definitions : List Definition) (i n : ℕ) → AreJudged t definitions i n → length definitions ≤ i → None ≡ clashes_pass t definitions
unfolding clashes_pass
among_none t definitions i n w l = sym (w.rest ∙ ap (λ k. over (clashes_rule t) (filter defines_type (take i definitions)) (filter defines_type k)) (drop_all i definitions l))
