-- `saved::record::connectors_at` meets its contract: the fields of the cells of any card are few bytes.
use mathlib.Core.Path.{refl}
use native.Mathlib.Omega.{arith}
use borrow.Author.Rules.{rules}
use Rattle.saved.proofs.Forms.{cells-small}
use Rattle.saved.proofs.record.connectors_at.Goals as goal

pub overflow_mul-result : goal.overflow_mul-result
overflow_mul-result c = omega (arith, cells-small c.args.n c.args.width (search rules) (search rules))

pub overflow_add-result-2 : goal.overflow_add-result-2
overflow_add-result-2 c = omega (arith, cells-small c.args.n c.args.width (search rules) (search rules))

pub returns : goal.returns
returns c = record {
  value = refl;
  upper_bound = omega (arith, cells-small c.args.n c.args.width (search rules) (search rules));
}
