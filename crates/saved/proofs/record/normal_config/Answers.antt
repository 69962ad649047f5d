-- `saved::record::normal_config` meets its contract: on either side of the test.
use Rattle.saved.proofs.record.normal_config.Goals as goal

pub returns-then-kind-config : goal.returns-then-kind-config
returns-then-kind-config c = rw c.if-kind-config.true

pub returns-else-kind-config : goal.returns-else-kind-config
returns-else-kind-config c = rw c.if-kind-config.false
