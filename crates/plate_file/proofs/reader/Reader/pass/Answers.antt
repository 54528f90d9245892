use Rattle.std.proofs.Common.{arith}
use Rattle.std.proofs.lemmas.List.Sums.{prefix_len-le-length}
use Rattle.plate_file.specs.Reading.{in_run}
use Rattle.plate_file.proofs.reader.Reader.pass.Goals as goal

pub split_at-requires : goal.split_at-requires
split_at-requires c = omega (arith, c.count.ensures, prefix_len-le-length (in_run c.args.run) c.args.self.now.left.now)
