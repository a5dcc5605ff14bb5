-- The items of a cached collection, one more.
use Rattle.std.proofs.Common.{◌≡◌, ℕ, true, List, [], ◌∷◌, ap, sym, ◌∙◌}
use Rattle.doll_erb.specs.declared.node.KeyPart.{KeyPart}
use Rattle.doll_schema.specs.Models.{ModelList}
use Rattle.doll_schema.specs.declared.value.Val.TheVariants as val
use Rattle.doll_table.specs.Tables.{TableMap}
use Rattle.doll_set.specs.Sets.{ReadSet}
use Rattle.doll_plain.specs.Direct.{Variables}
use Rattle.doll_types.specs.declared.types.ValueType.{ValueType}
use Rattle.doll_types.specs.Types.{Typing}
use Rattle.doll_lint.specs.Blocks.{item_key}
use Rattle.doll_run.specs.Rendering.{only}
use Rattle.doll_frames.specs.Flows.{ask_for}
use Rattle.doll_frames.specs.Collections.{is_key_over, item_ask, item_has_key, item_looks, kept_item, key_over, looks_over}
use Rattle.doll_frames.specs.declared.frame.KeptItem.{KeptItem}
use Rattle.doll_frames.specs.declared.keys.BlockKey.{BlockKey}

module _ (set : ReadSet) (schema : ModelList) (partial : ℕ) (name : List ℕ) (of : ValueType) (model id : ℕ) where
  -- what is made of an item, by equal parts
  pub item_made : {t u : TableMap} {typing : Typing} {key : List KeyPart} {vars : Variables} (one : BlockKey) → t ≡ u → typing ≡ (name, of) ∷ [] → key ≡ item_key name → vars ≡ (name, val.Record model id) ∷ []
      → one ≡ key_over set schema t partial typing key vars → ◌≡◌ {A = KeptItem} (record { id = id; key = one }) (kept_item set schema u partial name of model id)
  unfolding kept_item
  item_made {t = t} {u = u} {key = key} {vars = own} one tables types keys vars is =
      ap (λ (k : BlockKey). record { id = id; key = k })
      (is ∙ ap (λ ty. key_over set schema t partial ty key own) types ∙ ap (λ p. key_over set schema t partial ((name, of) ∷ []) p own) keys
      ∙ ap (λ v. key_over set schema t partial ((name, of) ∷ []) (item_key name) v) vars ∙ ap (λ w. key_over set schema w partial ((name, of) ∷ []) (item_key name) (only name (val.Record model id))) tables)

  pub asked_made : (tree : ℕ) {t u : TableMap} {typing : Typing} {key : List KeyPart} {vars : Variables} (one : BlockKey) → t ≡ u → typing ≡ (name, of) ∷ [] → key ≡ item_key name → vars ≡ (name, val.Record model id) ∷ []
      → one ≡ key_over set schema t partial typing key vars → ask_for one vars (record { tree = tree; template = partial; block = 4294967295 }) ≡ item_ask set schema u tree partial name of model id
  unfolding item_ask
  asked_made tree {t = t} {u = u} {key = key} {vars = own} one tables types keys vars is =
      ap (λ (k : BlockKey). ask_for k own (record { tree = tree; template = partial; block = 4294967295 }))
      (is ∙ ap (λ ty. key_over set schema t partial ty key own) types ∙ ap (λ p. key_over set schema t partial ((name, of) ∷ []) p own) keys
      ∙ ap (λ v. key_over set schema t partial ((name, of) ∷ []) (item_key name) v) vars ∙ ap (λ w. key_over set schema w partial ((name, of) ∷ []) (item_key name) (only name (val.Record model id))) tables)
      ∙ ap (λ v. ask_for (key_over set schema u partial ((name, of) ∷ []) (item_key name) (only name (val.Record model id))) v (record { tree = tree; template = partial; block = 4294967295 })) vars

  pub looks_made : {t u : TableMap} {typing : Typing} {key : List KeyPart} {vars : Variables} → t ≡ u → typing ≡ (name, of) ∷ [] → key ≡ item_key name → vars ≡ (name, val.Record model id) ∷ []
      → looks_over set schema t partial typing key vars ≡ item_looks set schema u partial name of model id
  unfolding item_looks
  looks_made {t = t} {u = u} {key = key} {vars = own} tables types keys vars =
      ap (λ ty. looks_over set schema t partial ty key own) types ∙ ap (λ p. looks_over set schema t partial ((name, of) ∷ []) p own) keys
      ∙ ap (λ v. looks_over set schema t partial ((name, of) ∷ []) (item_key name) v) vars ∙ ap (λ w. looks_over set schema w partial ((name, of) ∷ []) (item_key name) (only name (val.Record model id))) tables

  pub key_made : {t u : TableMap} {typing : Typing} {key : List KeyPart} {vars : Variables} → t ≡ u → typing ≡ (name, of) ∷ [] → key ≡ item_key name → vars ≡ (name, val.Record model id) ∷ []
      → is_key_over set schema t partial typing key vars ≡ true → item_has_key set schema u partial name of model id ≡ true
  unfolding item_has_key
  key_made {t = t} {u = u} {key = key} {vars = own} tables types keys vars has =
      sym (ap (λ ty. is_key_over set schema t partial ty key own) types ∙ ap (λ p. is_key_over set schema t partial ((name, of) ∷ []) p own) keys
      ∙ ap (λ v. is_key_over set schema t partial ((name, of) ∷ []) (item_key name) v) vars ∙ ap (λ w. is_key_over set schema w partial ((name, of) ∷ []) (item_key name) (only name (val.Record model id))) tables)
      ∙ has
