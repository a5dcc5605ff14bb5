-- Each tag's shape is told apart by its next token, so its tokens are read as the grammar says.
use Rattle.std.proofs.Common.{◌≡◌, ℕ, zero, suc, false, List, [], ◌∷◌, ◌++◌, length, Option, None, Some, Result, Ok, Err, refl, sym, ap, subst, ◌∙◌, inl, inr, append_assoc, arith}
use Rattle.std.proofs.lemmas.List.{length-append}
use Rattle.doll_expr.specs.declared.expr.ExprFault.{ExprFault}
use Rattle.doll_expr.specs.declared.token.Mark.TheVariants as mark
use Rattle.doll_text.specs.declared.words.Word.TheVariants as word
use Rattle.doll_expr.specs.declared.token.Token.{Token}
use Rattle.doll_expr.specs.declared.token.TokenKind.{TokenKind}
use Rattle.doll_expr.specs.declared.token.TokenKind.TheVariants as kind
use Rattle.doll_expr.specs.Tokens.{token, tokens_of}
use Rattle.doll_expr.specs.Reading.{first_kind}
use Rattle.doll_expr.proofs.Only.{few_tokens_of}
use Rattle.doll_expr.proofs.Ended.{text_ended}
use Rattle.doll_erb.specs.declared.node.Local.{Local}
use Rattle.doll_erb.specs.declared.node.KeyPart.{KeyPart}
use Rattle.doll_erb.specs.declared.role.Role.{Role}
use Rattle.doll_erb.specs.declared.render.Listed.{Listed}
use Rattle.doll_erb.specs.declared.piece.TagKind.{TagKind}
use Rattle.doll_erb.specs.declared.piece.TagKind.TheVariants as tag
use Rattle.doll_erb.specs.Shapes.{the_mark, the_word, is_fixed, Shape, Says, reads, IsFirstFault}
use Rattle.doll_erb.specs.Tags.{keyed, closed, parts, listed_key, cache, each, run, locals, cached, named_item, options, collected, rendered, write, raw, role_of, ComesTo, IsTag, HasFault, IsTagFault, TagsAreSentences}
use Rattle.doll_erb.proofs.Expressions.{end, EndsValue}
use Rattle.doll_erb.proofs.AllItems.{own_fixed}
use Rattle.doll_erb.proofs.Shapes.{Starts, Sound, sentence_read, Halts, read_law}

-- ---- keys and blocks

keyed_sound : (key : List KeyPart) → Sound (keyed key) × Starts EndsValue (keyed key)
unfolding keyed
keyed_sound key = ((λ places at. refl, λ x. (tt, tt)), λ at ts. (refl, refl))

closed_sound : (key : List KeyPart) → Sound (closed key) × Starts EndsValue (closed key) × Starts (λ ts. is_fixed (the_mark mark.Comma) (first_kind ts) ≡ false) (closed key)
unfolding closed
closed_sound key = ((λ places at. refl, λ x. (tt, (keyed_sound key).0)), (λ at ts. (refl, refl)), λ at ts. refl)

parts_sound : (n : ℕ) (key : List KeyPart) → Sound (parts n key) × Starts EndsValue (parts n key)
unfolding parts
parts_sound zero key = ((closed_sound key).0, (closed_sound key).1)
parts_sound (suc n) key = (
  ((λ places at. refl), (tt, λ a. ((parts_sound n (key ++ a ∷ [])).1, (parts_sound n (key ++ a ∷ [])).0)), (closed_sound key).0, (closed_sound key).2),
  ((λ at ts. (refl, refl)), (closed_sound key).1),
)

cache_sound : Sound cache
unfolding cache listed_key
cache_sound =
    ((λ places at. refl), (tt, λ a. ((parts_sound 7 (a ∷ [])).1, (parts_sound 7 (a ∷ [])).0)), (tt, λ a. ((keyed_sound (a ∷ [])).1, (keyed_sound (a ∷ [])).0)), λ t ts opens. opens)

each_sound : Sound each
unfolding each
each_sound = (tt, λ list. (tt, ((λ places at. refl), λ x. (tt, ((λ places at. refl), λ y. (tt, (tt, λ name. (tt, ((λ places at. refl), λ z. (tt, tt))))))))))

run_sound : Sound run
unfolding run each
run_sound = (
  (λ places at. refl),
  (tt, λ a. ((λ last. (refl, refl)), tt)),
  (
    (λ places at. refl),
    (tt, λ a. ((λ last. (refl, refl)), tt)),
    (
      (λ places at. refl),
      tt,
      (
        (λ places at. refl),
        tt,
        ((λ places at. refl), cache_sound, each_sound, λ t ts own. own_fixed (the_word word.Cache) t.kind own refl),
        ((λ at ts. refl), λ t ts own. own_fixed (the_word word.End) t.kind own refl),
      ),
      ((λ at ts. refl), ((λ at ts. refl), λ t ts own. own_fixed (the_word word.Else) t.kind own refl)),
    ),
    ((λ at ts. refl), ((λ at ts. refl), ((λ at ts. refl), λ t ts own. own_fixed (the_word word.Elsif) t.kind own refl))),
  ),
  ((λ at ts. refl), ((λ at ts. refl), ((λ at ts. refl), ((λ at ts. refl), λ t ts own. own_fixed (the_word word.If) t.kind own refl)))),
)

-- ---- what is written

locals_sound : (at : ℕ) (name : List ℕ) (n : ℕ) (before : List Local) → Sound (locals at name n before) × Starts EndsValue (locals at name n before)
unfolding locals
locals_sound at name zero before = (tt, λ last. (refl, refl))
locals_sound at name (suc n) before = (
  ((λ places place. refl), (tt, λ variable. (tt, ((λ places place. refl), λ x. (tt, (tt, λ a. ((locals_sound at name n _).1, (locals_sound at name n _).0)))))), tt, λ last. refl),
  ((λ place ts. (refl, refl)), λ last. (refl, refl)),
)

cached_sound : (at : ℕ) (of : Listed) (item : Option (List ℕ)) → Sound (cached at of item)
unfolding cached
cached_sound at of item = ((λ places place. refl), λ x. (tt, ((λ places place. refl), λ y. (tt, ((λ places place. refl), λ z. (tt, tt))))))

named_item_sound : (at : ℕ) (of : Listed) → Sound (named_item at of)
unfolding named_item
named_item_sound at of =
    ((λ places place. refl), λ x. (tt, ((λ places place. refl), λ y. (tt, (tt, λ name. (tt, ((λ places place. refl), cached_sound at of (Some name), tt, λ last. refl)))))))

options_sound : (at : ℕ) (of : Listed) → Sound (options at of) × Starts EndsValue (options at of)
unfolding options cached
options_sound at of = (
  ((λ places place. refl), ((λ places place. refl), named_item_sound at of, cached_sound at of None, λ place ts. refl), tt, λ last. refl),
  ((λ place ts. (refl, refl)), λ last. (refl, refl)),
)

collected_sound : (at : ℕ) → Sound (collected at)
unfolding collected
collected_sound at = (
  (λ places place. refl),
  λ x. (
    tt,
    (
      tt,
      λ name. (
        tt,
        (
          (λ places place. refl),
          λ y. (
            tt,
            (
              (λ places place. refl),
              λ z. (
                tt,
                (
                  (λ places place. refl),
                  λ w. (
                    tt,
                    (tt, λ list. ((options_sound at _).1, (options_sound at _).0)),
                  ),
                ),
              ),
            ),
          ),
        ),
      ),
    ),
  ),
)

no_word : (t : Token) (name : List ℕ) → t.kind ≡ kind.Text name → is_fixed (the_word word.Partial) t.kind ≡ false
no_word t name is = ap (is_fixed (the_word word.Partial)) is

rendered_sound : (at : ℕ) → Sound (rendered at)
unfolding rendered
rendered_sound at = ((λ places place. refl), collected_sound at, (tt, λ name. (tt, (locals_sound at name.0 64 []).0)), λ t ts opens. no_word t opens.0 opens.1)

write_sound : (at : ℕ) → Sound (write at)
unfolding write
write_sound at = ((λ places place. refl), rendered_sound at, (tt, λ a. ((λ last. (refl, refl)), tt)), λ t ts own. own_fixed (the_word word.Render) t.kind own refl)

raw_sound : (at : ℕ) → Sound (raw at)
unfolding raw
raw_sound at = (tt, λ a. ((λ last. (refl, refl)), tt))

-- ---- the clauses

-- what a shape's tokens come to
found : (shape : Shape Role) → Sound shape → (content : List ℕ) (what : Role) → reads shape (tokens_of content) ≡ Ok what → ComesTo shape content what
found shape sound content what h = elim (read_law shape sound (tokens_of content) (few_tokens_of content) (text_ended content)) [
  | inl whole ↦ (whole.0, whole.1, subst (Says shape whole.0) h whole.2)
  | inr halts ↦ absurd (let bad : Ok what ≡ Err halts.fault = sym h ∙ halts.told in cc bad)
]

halts_first : (shape : Shape Role) (ts : List Token) (r : Result Role ExprFault) (fault : ExprFault) (h : Halts shape ts r) → h.fault ≡ fault → IsFirstFault shape ts fault
halts_first shape ts r fault h same = record {
  before = h.before;
  token = h.stop;
  after = h.after;
  parts = h.parts;
  begins = h.begins;
  stops = λ more a says. h.stops (h.before ++ h.stop ∷ more) (more ++ end 0) a 0 says (append_assoc h.before (h.stop ∷ more) (end 0));
  unfinished = λ is a says. h.stops h.before [] a h.stop.at says (ap (λ (k : TokenKind). h.before ++ token k h.stop.at ∷ []) (sym is));
  is = sym same ∙ h.is;
}

faulty : (shape : Shape Role) → Sound shape → (content : List ℕ) (fault : ExprFault) → reads shape (tokens_of content) ≡ Err fault → HasFault shape content fault
faulty shape sound content fault h = elim (read_law shape sound (tokens_of content) (few_tokens_of content) (text_ended content)) [
  | inl whole ↦ inr (whole.0, whole.1, subst (Says shape whole.0) h whole.2)
  | inr halts ↦ inl (halts_first shape (tokens_of content) (reads shape (tokens_of content)) fault halts (let both : Err halts.fault ≡ Err fault = sym halts.told ∙ h in cc both))
]

only : (shape : Shape Role) → Sound shape → (content : List ℕ) (what : Role) → ComesTo shape content what → reads shape (tokens_of content) ≡ Ok what
only shape sound content what is =
    let few = few_tokens_of content in
    let len = ap length is.1.1 in
    let sum = length-append is.0 (end is.1.0) in
    ap (reads shape) is.1.1 ∙ sentence_read shape sound is.0 (Ok what) is.1.0 is.2 (omega (arith, few, len, sum))

pub tag_found : (at : ℕ) (kind : TagKind) (content : List ℕ) (what : Role) → role_of at kind content ≡ Ok what → IsTag at kind content what
unfolding role_of
tag_found at tag.Text content what h = cc h
tag_found at tag.Comment content what h = cc h
tag_found at tag.Write content what h = found (write at) (write_sound at) content what h
tag_found at tag.Raw content what h = found (raw at) (raw_sound at) content what h
tag_found at tag.Run content what h = found run run_sound content what h

pub tag_only : (at : ℕ) (kind : TagKind) (content : List ℕ) (what : Role) → IsTag at kind content what → role_of at kind content ≡ Ok what
unfolding role_of
tag_only at tag.Text content what is = ap Ok is
tag_only at tag.Comment content what is = ap Ok is
tag_only at tag.Write content what is = only (write at) (write_sound at) content what is
tag_only at tag.Raw content what is = only (raw at) (raw_sound at) content what is
tag_only at tag.Run content what is = only run run_sound content what is

pub tag_fault : (at : ℕ) (kind : TagKind) (content : List ℕ) (fault : ExprFault) → role_of at kind content ≡ Err fault → IsTagFault at kind content fault
unfolding role_of
tag_fault at tag.Text content fault h = cc h
tag_fault at tag.Comment content fault h = cc h
tag_fault at tag.Write content fault h = faulty (write at) (write_sound at) content fault h
tag_fault at tag.Raw content fault h = faulty (raw at) (raw_sound at) content fault h
tag_fault at tag.Run content fault h = faulty run run_sound content fault h

pub tags_are_sentences : TagsAreSentences
tags_are_sentences at kind content = ((λ what. (tag_found at kind content what, tag_only at kind content what)), tag_fault at kind content)
