-- Scopes of variables of two pages: that of a block, and those inside.
use Rattle.std.proofs.Common.{◌≡◌, ℕ, Bool, true, false, cond, List, [], ◌∷◌, ◌++◌, map, reverse, find, bytes_eq, Some, Result, Ok, Err, inl, inr, refl, sym, subst}
use Rattle.std.specs.Prelude.{option_map}
use Rattle.std.specs.Option.{option_map_or}
use Rattle.std.proofs.lemmas.List.{append-nil, append_assoc, reverse-append}
use Rattle.doll_text.specs.Steps.{◌>>=◌}
use Rattle.doll_erb.specs.declared.node.KeyPart.{KeyPart}
use Rattle.doll_erb.specs.declared.node.Local.{Local}
use Rattle.doll_schema.specs.declared.value.Val.{Val}
use Rattle.doll_eval.specs.Operations.{nil}
use Rattle.doll_eval.specs.Values.{value_of, variable}
use Rattle.doll_plain.specs.Direct.{Variables}
use Rattle.doll_types.specs.declared.types.TypeKind.{TypeKind}
use Rattle.doll_types.specs.declared.types.ValueType.{ValueType}
use Rattle.doll_types.specs.declared.types.ValueType.TheVariants as type
use Rattle.doll_types.specs.Findings.{locals_typing}
use Rattle.doll_types.specs.Sound.{HasType}
use Rattle.doll_types.specs.Types.{Typing, type_of}
use Rattle.doll_types.proofs.Values.{bound as bound_types, values}
use Rattle.doll_lint.specs.declared.path.Path.{Path}
use Rattle.doll_lint.specs.Blocks.{scope_roots}
use Rattle.doll_lint.specs.Needs.{local_standing, looking_wants}
use Rattle.doll_lint.specs.Paths.{root_path}
use Rattle.doll_lint.specs.Readings.{Standing, looked, reading_of}
use Rattle.doll_agree.specs.Standing.{AreAsked, AreInScope, Pages, Wait}
use Rattle.doll_agree.proofs.Expressions.{Told, stands, told_of}
use Rattle.doll_agree.proofs.Lists.{front}
use Rattle.doll_agree.proofs.Stands.{stand_waits}
use Rattle.doll_agree.proofs.Told.{ok_same, scope_root, some_same}

-- ---- the scope of a block

wait_root : (p : Pages) (t : ValueType) (name : List ℕ) → Wait p t (root_path name ∷ []) (variable p.here name) (variable p.there name)
wait_root p type.Integer name = inr (inl (refl, refl))
wait_root p type.Text name = inr (inl (refl, refl))
wait_root p type.Boolean name = inr (inl (refl, refl))
wait_root p (type.Record model) name = inr (inl (refl, refl))
wait_root p (type.List model) name = inr (inl (refl, refl))
wait_root p type.Nil name = inr (inl (refl, refl))

-- each variable of a block stands for itself
pub block_scope : (p : Pages) (typing : Typing) (key : List KeyPart) → AreAsked p typing key → AreInScope p typing (scope_roots typing) p.here p.there
block_scope p typing key asked = record {
  have = asked.have;
  wait = λ name t is. subst (λ paths. Wait p t paths (variable p.here name) (variable p.there name)) (sym (scope_root typing name t is)) (wait_root p t name);
}

-- ---- inner scopes

reverse_last : {X : Type 0} (xs : List X) (x : X) → reverse (xs ++ x ∷ []) ≡ x ∷ reverse xs
reverse_last xs x = reverse-append xs (x ∷ [])

module _ (p : Pages) where
  pub empty_scope : AreInScope p [] [] [] []
  empty_scope = record { have = λ name t e. absurd (cc e); wait = λ name t e. absurd (cc e) }

  -- a variable more
  pub bound_scope : (typing : Typing) (standing : Standing) (here there : Variables) (name : List ℕ) (t : ValueType) (paths : List Path) (a b : Val) → AreInScope p typing standing here there → HasType p.one t a → Wait p t paths a b
      → AreInScope p (typing ++ (name, t) ∷ []) (standing ++ (name, paths) ∷ []) (here ++ (name, a) ∷ []) (there ++ (name, b) ∷ [])
  bound_scope typing standing here there name t paths a b scope has waits = record {
    have = bound_types p.one typing here name t a scope.have has;
    wait = λ wanted u e. rw (reverse_last standing (name, paths), reverse_last here (name, a), reverse_last there (name, b)) (by wanted u (bytes_eq name wanted) (rw (reverse_last typing (name, t)) at e));
  }
    where
      by : (wanted : List ℕ) (u : ValueType) (same : Bool) → option_map (λ (b : List ℕ × ValueType). b.1) (cond same (Some (name, t)) (find (λ (b : List ℕ × ValueType). bytes_eq b.0 wanted) (reverse typing))) ≡ Some u
          → Wait p u (option_map_or (λ (b : List ℕ × List Path). b.1) (cond same (Some (name, paths)) (find (λ (b : List ℕ × List Path). bytes_eq b.0 wanted) (reverse standing))) [])
          (option_map_or (λ (b : List ℕ × Val). b.1) (cond same (Some (name, a)) (find (λ (b : List ℕ × Val). bytes_eq b.0 wanted) (reverse here))) nil)
          (option_map_or (λ (b : List ℕ × Val). b.1) (cond same (Some (name, b)) (find (λ (b : List ℕ × Val). bytes_eq b.0 wanted) (reverse there))) nil)
      by wanted u true e = subst (λ t. Wait p t paths a b) (some_same e) waits
      by wanted u false e = scope.wait wanted u e

  -- one variable alone
  pub only_scope : (name : List ℕ) (t : ValueType) (paths : List Path) (a b : Val) → HasType p.one t a → Wait p t paths a b → AreInScope p ((name, t) ∷ []) ((name, paths) ∷ []) ((name, a) ∷ []) ((name, b) ∷ [])
  only_scope name t paths a b has waits = bound_scope [] [] [] [] name t paths a b empty_scope has waits

-- ---- the variables of a partial

module _ (p : Pages) (typing : Typing) (key : List KeyPart) (asked : AreAsked p typing key) (inner : Typing) (standing : Standing) (here there : Variables) (scope : AreInScope p inner standing here there) where
  -- what a page hands on
  abbrev pub handed_here : List Local → Variables
  handed_here locals = map (λ (l : Local). (l.name, value_of l.value here p.schema p.one)) locals

  abbrev pub handed_there : List Local → Variables
  handed_there locals = map (λ (l : Local). (l.name, value_of l.value there p.schema p.other)) locals

  -- a key tells what each local needs
  abbrev pub AreLocalsTold : List Local → Type 0
  AreLocalsTold [] = Unit {0}
  AreLocalsTold (l ∷ locals) = Told p typing key asked (looking_wants (reading_of p.schema inner standing l.value)) × AreLocalsTold locals

  locals_from : (locals : List Local) (types before : Typing) (stood : Standing) (here_before there_before : Variables) → AreInScope p before stood here_before there_before → locals_typing p.schema inner locals ≡ Ok types → AreLocalsTold locals
      → AreInScope p (before ++ types) (stood ++ local_standing p.schema inner standing locals) (here_before ++ handed_here locals) (there_before ++ handed_there locals)
  locals_from [] types before stood here_before there_before so e told =
      subst (λ ts. AreInScope p (before ++ ts) (stood ++ []) (here_before ++ []) (there_before ++ [])) (ok_same e)
      (rw (append-nil before, append-nil stood, append-nil here_before, append-nil there_before) so)
  locals_from (l ∷ locals) types before stood here_before there_before so e told =
      by (type_of p.schema inner l.value) refl (locals_typing p.schema inner locals) refl e
      (λ more bs ss hs ts so are. locals_from locals more bs ss hs ts so are told.1)
    where
      a : Val
      a = value_of l.value here p.schema p.one

      b : Val
      b = value_of l.value there p.schema p.other

      paths : List Path
      paths = (reading_of p.schema inner standing l.value).paths

      rest_standing : Standing
      rest_standing = local_standing p.schema inner standing locals

      by : (r : Result ValueType TypeKind) → type_of p.schema inner l.value ≡ r → (rs : Result Typing TypeKind) → locals_typing p.schema inner locals ≡ rs → ((r >>= (λ t. Ok (l.name, t))) >>= (λ one. rs >>= (λ more. Ok (one ∷ more)))) ≡ Ok types
          → ((more bs : Typing) (ss : Standing) (hs ts : Variables) → AreInScope p bs ss hs ts → locals_typing p.schema inner locals ≡ Ok more → AreInScope p (bs ++ more) (ss ++ rest_standing) (hs ++ handed_here locals) (ts ++ handed_there locals))
          → AreInScope p (before ++ types) (stood ++ ((l.name, paths) ∷ rest_standing)) (here_before ++ ((l.name, a) ∷ handed_here locals)) (there_before ++ ((l.name, b) ∷ handed_there locals))
      by (Err k) is rs are e later = absurd (cc e)
      by (Ok t) is (Err k) are e later = absurd (cc e)
      by (Ok t) is (Ok more) are e later =
          let own = bound_scope p before stood here_before there_before l.name t paths a b so (values p.schema p.one inner here l.value t asked.fits scope.have is)
          (stand_waits p t paths a b (stands p typing key asked inner standing here there scope l.value t is (front (told_of p typing key asked) (reading_of p.schema inner standing l.value).wants (looked (reading_of p.schema inner standing l.value)) told.0))) in
          let whole = later more (before ++ (l.name, t) ∷ []) (stood ++ (l.name, paths) ∷ []) (here_before ++ (l.name, a) ∷ []) (there_before ++ (l.name, b) ∷ []) own are in
          subst (λ ts. AreInScope p (before ++ ts) (stood ++ ((l.name, paths) ∷ rest_standing)) (here_before ++ ((l.name, a) ∷ handed_here locals)) (there_before ++ ((l.name, b) ∷ handed_there locals))) (ok_same e)
          (subst (λ ts. AreInScope p ts (stood ++ ((l.name, paths) ∷ rest_standing)) (here_before ++ ((l.name, a) ∷ handed_here locals)) (there_before ++ ((l.name, b) ∷ handed_there locals))) (append_assoc before ((l.name, t) ∷ []) more)
          (subst (λ ss. AreInScope p ((before ++ (l.name, t) ∷ []) ++ more) ss (here_before ++ ((l.name, a) ∷ handed_here locals)) (there_before ++ ((l.name, b) ∷ handed_there locals))) (append_assoc stood ((l.name, paths) ∷ []) rest_standing)
          (subst (λ hs. AreInScope p ((before ++ (l.name, t) ∷ []) ++ more) ((stood ++ (l.name, paths) ∷ []) ++ rest_standing) hs (there_before ++ ((l.name, b) ∷ handed_there locals))) (append_assoc here_before ((l.name, a) ∷ []) (handed_here locals))
          (subst (λ ts. AreInScope p ((before ++ (l.name, t) ∷ []) ++ more) ((stood ++ (l.name, paths) ∷ []) ++ rest_standing) ((here_before ++ (l.name, a) ∷ []) ++ handed_here locals) ts) (append_assoc there_before ((l.name, b) ∷ []) (handed_there locals))
          whole))))

  -- the variables that a partial is rendered with
  pub locals_scope : (locals : List Local) (types : Typing) → locals_typing p.schema inner locals ≡ Ok types → AreLocalsTold locals → AreInScope p types (local_standing p.schema inner standing locals) (handed_here locals) (handed_there locals)
  locals_scope locals types e told = locals_from locals types [] [] [] [] (empty_scope p) e told
