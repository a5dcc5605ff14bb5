-- Frames whose records are in a table.
use Rattle.std.proofs.Common.{◌≡◌, List, [], ◌∷◌, sym, subst}
use Rattle.doll_table.specs.Tables.{TableMap}
use Rattle.doll_frames.specs.Stacks.{FrameLives, FramesLive}
use Rattle.doll_frames.specs.declared.frame.Frame.{Frame}

pub no_frames : (table : TableMap) (frames : List Frame) → frames ≡ [] → FramesLive table frames
unfolding FramesLive
no_frames table frames none = subst (FramesLive table) (sym none) tt

pub frame_pushed : (table : TableMap) (one : Frame) (frames whole : List Frame) → whole ≡ one ∷ frames → FrameLives table one → FramesLive table frames → FramesLive table whole
unfolding FramesLive
frame_pushed table one frames whole is here others = subst (FramesLive table) (sym is) (here, others)

pub frame_here : (table : TableMap) (one : Frame) (frames whole : List Frame) → whole ≡ one ∷ frames → FramesLive table whole → FrameLives table one
unfolding FramesLive
frame_here table one frames whole is lives = (subst (FramesLive table) is lives).0

pub frames_behind : (table : TableMap) (one : Frame) (frames whole : List Frame) → whole ≡ one ∷ frames → FramesLive table whole → FramesLive table frames
unfolding FramesLive
frames_behind table one frames whole is lives = (subst (FramesLive table) is lives).1
