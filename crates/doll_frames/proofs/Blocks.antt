-- What is left of a block, by where it stopped in it.
use Rattle.std.proofs.Common.{◌≡◌, ℕ, true, false, List, [], ◌∷◌, ◌++◌, None, Some, refl, ap, sym, ◌∙◌}
use Rattle.doll_erb.specs.declared.node.KeyPart.{KeyPart}
use Rattle.doll_erb.specs.declared.node.Node.{Node}
use Rattle.doll_plain.specs.Direct.{Variables}
use Rattle.doll_types.specs.Types.{Typing}
use Rattle.doll_entry.specs.declared.entry.Fresh.{Fresh}
use Rattle.doll_run.specs.Pages.{Ground}
use Rattle.doll_run.specs.Rendering.{after_text, found_or, tree_runs}
use Rattle.doll_run.specs.Runs.{Rest}
use Rattle.doll_frames.specs.Along.{Went, none_given}
use Rattle.doll_frames.specs.Flows.{block_id, fresh_of, is_done}
use Rattle.doll_frames.specs.Left.{block_anew, block_left, body_left, made, nodes_left, stage_at}
use Rattle.doll_frames.specs.Stacks.{Given, Stopped, first_is, is_block}
use Rattle.doll_frames.specs.declared.flow.Flow.{Flow}
use Rattle.doll_frames.specs.declared.flow.Flow.TheVariants as flow
use Rattle.doll_frames.specs.declared.frame.Frame.{Frame}
use Rattle.doll_frames.specs.declared.frame.Frame.TheVariants as frame
use Rattle.doll_frames.specs.declared.keys.BlockKey.{BlockKey}
use Rattle.doll_frames.proofs.Beginnings.{block_begin}
use Rattle.doll_frames.proofs.Lefts.{nodes_anew}
use Rattle.doll_frames.proofs.Wents.{went_body, went_handed}

module _ (over : Ground) (levels number block : ℕ) (parts : List KeyPart) (body : List Node) (typing : Typing) (vars : Variables) where
  abbrev pub block_goes : Given → List Frame → Rest → Rest
  block_goes = block_left over levels number block parts body typing vars

  abbrev pub body_goes : Given → List Frame → Rest → Rest
  body_goes = nodes_left over levels number body typing vars

  block_anew_is : (given : Given) → block_goes given [] ≡ block_anew (stage_at over levels number) block parts body typing vars
  unfolding block_left
  block_anew_is given = refl

  pub block_start : (given : Given) (whole : List Frame) → first_is is_block whole ≡ false → block_goes given whole ≡ block_anew (stage_at over levels number) block parts body typing vars
  block_start given whole other = block_begin over levels number typing vars given block parts body whole other ∙ block_anew_is given

  -- what was found stands in its place
  pub block_found : (given : Given) (key : BlockKey) (bytes : List ℕ) (frames whole : List Frame) → whole ≡ frame.Asked key ∷ frames → given.one ≡ Some bytes → block_goes given whole ≡ (λ rest. after_text bytes rest)
  unfolding block_left
  block_found given key bytes frames whole popped is =
      ap (block_goes given) popped ∙ ap (λ o. λ (rest : Rest). found_or o (tree_runs (stage_at over levels number) body typing vars) (made over number block key vars) rest) is

  -- nothing was found: its body begins
  pub block_missed : (given later : Given) (key : BlockKey) (frames whole none : List Frame) → whole ≡ frame.Asked key ∷ frames → given.one ≡ None → none ≡ [] → block_goes given whole ≡ body_left (body_goes later none) (made over number block key vars) []
  unfolding block_left
  block_missed given later key frames whole none popped is empty =
      ap (block_goes given) popped
      ∙ ap (λ o. λ (rest : Rest). found_or o (tree_runs (stage_at over levels number) body typing vars) (made over number block key vars) rest) is
      ∙ ap (λ (run : Rest → Rest). body_left run (made over number block key vars) []) (sym (ap (body_goes later) empty ∙ nodes_anew over levels number typing vars body later))

  -- its body goes on
  pub block_resumed : (given : Given) (key : BlockKey) (written : List ℕ) (frames whole : List Frame) → whole ≡ frame.Body key written ∷ frames → block_goes given whole ≡ body_left (body_goes given frames) (made over number block key vars) written
  unfolding block_left
  block_resumed given key written frames whole popped = ap (block_goes given) popped

  -- it was handed in
  pub block_behind : (given : Given) (frames whole : List Frame) → whole ≡ frame.Behind ∷ frames → block_goes given whole ≡ (λ rest. rest)
  unfolding block_left
  block_behind given frames whole popped = ap (block_goes given) popped

  body_in : (key : BlockKey) (written : List ℕ) (frames : List Frame) → ◌≡◌ {A = Given → Rest → Rest} (λ found. block_goes found (frame.Body key written ∷ frames)) (λ found. body_left (body_goes found frames) (made over number block key vars) written)
  unfolding block_left
  body_in key written frames = refl

  -- its body stopped
  pub body_stops : (key : BlockKey) (given : Given) (frames : List Frame) (inner new : Stopped) (looks later : ℕ) (written after outer : List ℕ) (stop : Flow) → is_done stop ≡ false → new.frames ≡ frame.Body key after ∷ inner.frames
      → Went (body_goes given frames) body_goes inner looks later written after stop → Went (body_left (body_goes given frames) (made over number block key vars) written) block_goes new looks later outer outer stop
  body_stops key given frames inner new looks later written after outer stop is pushed went =
      went_body (made over number block key vars) is (ap (λ fs. λ (found : Given). block_goes found fs) pushed ∙ body_in key after inner.frames) went

  -- its body is done
  pub body_ends : (key : BlockKey) (given : Given) (frames behind : List Frame) (inner new : Stopped) (looks later : ℕ) (written all before after : List ℕ) (stop : Flow) (fresh : Fresh) → is_done stop ≡ true → new.frames ≡ frame.Behind ∷ behind
      → fresh ≡ fresh_of key vars (block_id over.tree number block) all over.moment → after ≡ before ++ all
      → Went (body_goes given frames) body_goes inner looks later written all stop → Went (body_left (body_goes given frames) (made over number block key vars) written) block_goes new looks later before after (flow.Write fresh)
  body_ends key given frames behind inner new looks later written all before after stop fresh is pushed of appended went =
      went_handed (made over number block key vars) fresh is of appended (block_behind none_given behind new.frames pushed) went
