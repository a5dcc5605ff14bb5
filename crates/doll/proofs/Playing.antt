-- What is told of a site whose script is played.
use Rattle.std.proofs.Common.{◌≡◌, ◌+◌, ℕ, suc, List, [], ◌∷◌, length, Option, None, Some, Result, Ok, Err, IfOk, refl, ap, sym, subst}
use Rattle.std.specs.List.{AllByRecursion}
use Rattle.doll_bundle.specs.Sites.{Site}
use Rattle.doll_core.specs.States.{CoreState}
use Rattle.doll_lint.specs.Faults.{IsClean}
use Rattle.doll_replay.specs.Plays.{MayPlay}
use Rattle.doll_replay.specs.Reports.{Replays}
use Rattle.doll_replay.specs.declared.playing.Replayed.{Replayed}
use Rattle.doll_script.specs.Lines.{order_in}
use Rattle.doll_script.specs.Scripts.{orders_from, orders_of, with_order}
use Rattle.doll_script.specs.Storable.{IsForText, MayBeMade}
use Rattle.doll_script.specs.declared.order.Order.{Order}
use Rattle.doll_script.specs.declared.order.Order.TheVariants as order
use Rattle.doll_script.specs.declared.script.ScriptFault.{ScriptFault}
use Rattle.doll_script.specs.declared.script.ScriptFault.TheVariants.{Line}
use Rattle.doll_types.specs.Faults.{IsTyped}
use Rattle.doll.specs.declared.reply.Reply.{Reply}
use Rattle.doll.specs.Replies.{BeginsOver, IsLintedReply, IsPlayed, IsReplayReply, IsScriptReply, replayed_reply, script_refused}
use Rattle.doll.proofs.Faultless.{clean_none, typed_none}

-- of a typed site it is told what comes next, and of one whose lint finds nothing what its script comes to
pub typed_replay : {F : Type 0} (site staged : Site) (result : Result Reply F) → staged ≡ site → IsTyped site.set site.schema site.routes → IfOk result (IsLintedReply staged) → IfOk result (IsReplayReply site)
typed_replay site staged (Ok reply) same typed is = ([], typed_none site.set site.schema site.routes typed, subst (λ one. IsLintedReply one reply) same is)
typed_replay site staged (Err e) same typed is = tt

pub clean_replay : {F : Type 0} (site staged : Site) (result : Result Reply F) → staged ≡ site → IsClean site.set site.schema site.routes → IfOk result (IsScriptReply staged (orders_of staged.script)) → IfOk result (IsLintedReply site)
clean_replay site staged (Ok reply) same clean is =
    ([], clean_none site.set site.schema site.routes clean, subst (λ (one : Site). IsScriptReply one (orders_of one.script) reply) same is)
clean_replay site staged (Err e) same clean is = tt

-- what is told is what the orders came to from the beginning
pub played : {F : Type 0} (site : Site) (orders : List Order) (begin end : CoreState) (came : Replayed) (result : Result Reply F) → BeginsOver site begin → Replays begin orders came end → IfOk result (λ reply. reply ≡ replayed_reply came) → IfOk result (IsPlayed site orders)
played site orders begin end came (Ok reply) begins replays told =
    record { begin = begin; end = end; result = came; begins = begins; replays = replays; told = told }
played site orders begin end came (Err e) begins replays told = tt

-- the orders that are played are those of the script's lines
pub script_played : {F : Type 0} (site : Site) (orders : List Order) (read : Result (List Order) ScriptFault) (result : Result Reply F) → read ≡ Ok orders → IfOk result (IsPlayed site orders) → IfOk result (IsScriptReply site read)
script_played site orders read (Ok reply) same is = subst (λ r. IsScriptReply site r reply) (sym same) is
script_played site orders read (Err e) same is = tt

pub line_refused : {F : Type 0} (site : Site) (line : ℕ) (read : Result (List Order) ScriptFault) (result : Result Reply F) → read ≡ Err (Line line) → IfOk result (λ reply. reply ≡ script_refused line) → IfOk result (IsScriptReply site read)
line_refused site line read (Ok reply) same is = subst (λ r. IsScriptReply site r reply) (sym same) is
line_refused site line read (Err e) same is = tt

-- an order that may be made and is for a text may be played
may_play : (one : Order) → MayBeMade one → IsForText one → MayPlay one
may_play (order.Now now) made text = tt
may_play (order.Commit changes) made text = made
may_play (order.Open session target seen) made text = text
may_play (order.Turn session) made text = tt
may_play (order.Run session) made text = tt
may_play (order.Get target) made text = text
may_play order.Expire made text = tt

pub all_may_play : (orders : List Order) → AllByRecursion MayBeMade orders → AllByRecursion IsForText orders → AllByRecursion MayPlay orders
all_may_play [] made text = tt
all_may_play (one ∷ orders) made text = (may_play one made.0 text.0, all_may_play orders made.1 text.1)

-- there are so many orders as lines
with_count : (line : ℕ) (o : Option Order) (others : Result (List Order) ScriptFault) (n : ℕ) → IfOk others (λ orders. length orders ≡ n) → IfOk (with_order line o others) (λ orders. length orders ≡ suc n)
with_count line None others n is = tt
with_count line (Some order) (Ok orders) n is = ap suc is
with_count line (Some order) (Err fault) n is = tt

count_from : (line : ℕ) (lines : List (List ℕ)) → IfOk (orders_from line lines) (λ orders. length orders ≡ length lines)
count_from line [] = refl
count_from line (text ∷ more) = with_count line (order_in text) (orders_from (line + 1) more) (length more) (count_from (line + 1) more)

pub orders_count : (lines : List (List ℕ)) (orders : List Order) → orders_of lines ≡ Ok orders → length orders ≡ length lines
orders_count lines orders is = subst (λ r. IfOk r (λ orders. length orders ≡ length lines)) is (count_from 1 lines)
