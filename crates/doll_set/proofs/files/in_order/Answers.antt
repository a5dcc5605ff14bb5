use Rattle.std.proofs.Common.{refl}
use Rattle.doll_set.specs.Files.{in_order}
use Rattle.doll_set.proofs.Placing.{file_next, one_longer}
use Rattle.doll_set.proofs.files.in_order.Goals as goal

pub loop-file-preserved : goal.loop-file-preserved
loop-file-preserved c =
    let files = c.args.files.now in
    record {
      order = file_next c.loop-file.ordered.items c.insert.new.self.items c.as_slice.result.now c.place_of_file-at.result (λ file. file.now) c.file-item.result c.as_bytes.result.now files (in_order files) c.loop-file.file-index c.in_ok-insert.ensures.items refl
          c.loop-file-test.true c.file-item.is c.as_bytes.ensures c.as_slice.ensures.value c.place_of_file-at.ensures.place c.loop-file.invariant.order;
      count = one_longer c.loop-file.ordered.items c.insert.new.self.items c.as_slice.result.now c.place_of_file-at.result c.loop-file.file-index _ c.in_ok-insert.ensures.items c.as_slice.ensures.value c.place_of_file-at.ensures.within c.loop-file.invariant.count;
    }
