use Rattle.std.proofs.Common.{◌≡◌, ◌+◌, ◌<◌, ◌++◌, ◌∷◌, [], length, List, refl, ◌∙◌, ap}
use Rattle.std.proofs.lemmas.Result.{err_from_is_err_and}
use Rattle.std.proofs.lemmas.List.{length_push}
use Rattle.doll_journal.specs.declared.change.Commit.{Commit}
use Rattle.doll_journal.specs.Spelling.{spelling}
use Rattle.doll_commit.specs.declared.apply.Applied.{Applied}
use Rattle.doll_records.proofs.Recorded.{called_ok, called_err, asked_is, asked_refused, asked_accepted, asked_storable, spelled_grown, next_holds, next_carries}
use Rattle.doll_records.specs.declared.limits.TheConstants.{MOST_COMMITS}
use Rattle.doll_records.proofs.records.Records.commit.Goals as goal

pub returns-in_err-table-clause-exact : goal.returns-in_err-table-clause-exact
returns-in_err-table-clause-exact g c =
    let p = err_from_is_err_and c.from_residual.result c.from_residual.ensures.1 in
    let inside = c.self.inside in
    let room : length c.self.inside.history.items < MOST_COMMITS = rw (c.len.ensures, c.self.inside.history.ok.0) at c.if-len-ge-MOST_COMMITS.false in
    rw (← c.self.view_is, p.1, p.2) (λ _ other.
    asked_refused inside.schema inside.history.items inside.table c.get.result.now inside.moment c.args.author c.args.serial c.args.changes c.args.now c.asked-commit.result c.in_err-table.field-0.0
    c.self.invariant.0 room c.if-self-ge-LAST_MOMENT.false c.asked-commit.ensures c.get.ensures (c.in_err-table.ensures.exact other))

pub returns-in_err-keep-clause-last : goal.returns-in_err-keep-clause-last
returns-in_err-keep-clause-last g c =
    let inside = c.self.inside in
    let room : length c.self.inside.history.items < MOST_COMMITS = rw (c.len.ensures, c.self.inside.history.ok.0) at c.if-len-ge-MOST_COMMITS.false in
    let applied : Applied = record { table = c.in_ok-table.field-0.table; ids = c.in_ok-table.field-0.ids } in
    let ok = asked_accepted inside.schema inside.history.items inside.table c.get.result.now inside.moment c.args.author c.args.serial c.args.changes c.args.now (length inside.history.items + 1) c.asked-commit.result applied
    c.self.invariant.0 room c.if-self-ge-LAST_MOMENT.false c.asked-commit.ensures refl c.get.ensures c.in_ok-table.ensures.exact in
    rw (← c.self.view_is) (λ _. rw ok refl)

pub invariant_of-self-2 : goal.invariant_of-self-2
invariant_of-self-2 g c =
    let inside = c.self.inside in
    let commit = c.asked-commit.result in
    let room : length c.self.inside.history.items < MOST_COMMITS = rw (c.len.ensures, c.self.inside.history.ok.0) at c.if-len-ge-MOST_COMMITS.false in
    let applied : Applied = record { table = c.in_ok-table.field-0.table; ids = c.in_ok-table.field-0.ids } in
    let grown = c.in_ok-keep.ensures.history ∙ ap (λ (xs : List Commit). xs ++ c.asked-commit.result ∷ []) c.reserve.ensures.items in
    let spelled = spelled_grown (g.K.Keeper.kept inside.keeper) (g.K.Keeper.kept c.keep.new.keeper) inside.history.items commit c.as_slice.result.now c.self.invariant.1 (c.as_slice.ensures.value ∙ c.in_ok-table.ensures.bytes) c.in_ok-keep.ensures.added in
    let storable = asked_storable c.args.author c.args.serial inside.moment c.args.now c.args.changes commit c.ranges.author.fits c.ranges.serial.fits c.if-self-ge-LAST_MOMENT.false c.requires c.asked-commit.ensures in (
      next_holds inside.schema inside.history.items c.keep.new.history.items inside.table c.get.result.now inside.moment commit c.args.now applied
          c.self.invariant.0 room c.if-self-ge-LAST_MOMENT.false (ap (λ (k : Commit). k.moment) c.asked-commit.ensures) c.get.ensures storable c.in_ok-table.ensures.exact c.in_ok-table.ensures.fits grown,
      rw grown spelled,
    )

pub returns-clause-exact : goal.returns-clause-exact
returns-clause-exact g c =
    let inside = c.self.inside in
    let room : length c.self.inside.history.items < MOST_COMMITS = rw (c.len.ensures, c.self.inside.history.ok.0) at c.if-len-ge-MOST_COMMITS.false in
    let applied : Applied = record { table = c.in_ok-table.field-0.table; ids = c.in_ok-table.field-0.ids } in
    let grown = c.in_ok-keep.ensures.history ∙ ap (λ (xs : List Commit). xs ++ c.asked-commit.result ∷ []) c.reserve.ensures.items in
    let place : c.len-2.result ≡ length c.self.inside.history.items + 1 = c.len-2.ensures ∙ c.keep.new.history.ok.0 ∙ ap length grown ∙ length_push c.self.inside.history.items c.asked-commit.result in
    rw (← c.self.view_is) (asked_accepted inside.schema inside.history.items inside.table c.get.result.now inside.moment c.args.author c.args.serial c.args.changes c.args.now c.len-2.result c.asked-commit.result applied
    c.self.invariant.0 room c.if-self-ge-LAST_MOMENT.false c.asked-commit.ensures place c.get.ensures c.in_ok-table.ensures.exact)

pub returns-clause-moments : goal.returns-clause-moments
returns-clause-moments g c =
    let inside = c.self.inside in
    let commit = c.asked-commit.result in
    let room : length c.self.inside.history.items < MOST_COMMITS = rw (c.len.ensures, c.self.inside.history.ok.0) at c.if-len-ge-MOST_COMMITS.false in
    let applied : Applied = record { table = c.in_ok-table.field-0.table; ids = c.in_ok-table.field-0.ids } in
    let grown = c.in_ok-keep.ensures.history ∙ ap (λ (xs : List Commit). xs ++ c.asked-commit.result ∷ []) c.reserve.ensures.items in
    let storable = asked_storable c.args.author c.args.serial inside.moment c.args.now c.args.changes commit c.ranges.author.fits c.ranges.serial.fits c.if-self-ge-LAST_MOMENT.false c.requires c.asked-commit.ensures in
    let holds = next_holds inside.schema inside.history.items c.keep.new.history.items inside.table c.get.result.now inside.moment commit c.args.now applied
    c.self.invariant.0 room c.if-self-ge-LAST_MOMENT.false (ap (λ (k : Commit). k.moment) c.asked-commit.ensures) c.get.ensures storable c.in_ok-table.ensures.exact c.in_ok-table.ensures.fits grown in
    rw (← c.self.view_is) (next_carries inside.schema inside.history.items c.keep.new.history.items inside.table c.get.result.now c.in_ok-table.field-0.table inside.moment commit.moment c.self.invariant.0 c.get.ensures holds c.in_ok-table.ensures.moments)

pub returns-in_err-keep-clause-called : goal.returns-in_err-keep-clause-called
returns-in_err-keep-clause-called g c =
    let inside = c.self.inside in
    let p = err_from_is_err_and c.from_residual-in_err-keep.result c.from_residual-in_err-keep.ensures.1 in
    rw (← c.self.view_is, p.1, p.2) (called_err g.K.Keeper.called inside.keeper c.keep.new.keeper _ c.as_slice.result.now c.in_err-keep.field-0.0
    (c.as_slice.ensures.value ∙ c.in_ok-table.ensures.bytes ∙ ap spelling (asked_is inside.history.items c.args.author c.args.serial c.args.changes c.args.now inside.moment c.asked-commit.result c.self.invariant.0.moment c.asked-commit.ensures)) c.in_err-keep.ensures.called)

pub returns-clause-called : goal.returns-clause-called
returns-clause-called g c =
    let inside = c.self.inside in
    rw (← c.self.view_is) (called_ok g.K.Keeper.called inside.keeper c.keep.new.keeper _ c.as_slice.result.now
    (c.as_slice.ensures.value ∙ c.in_ok-table.ensures.bytes ∙ ap spelling (asked_is inside.history.items c.args.author c.args.serial c.args.changes c.args.now inside.moment c.asked-commit.result c.self.invariant.0.moment c.asked-commit.ensures)) c.in_ok-keep.ensures.called)
