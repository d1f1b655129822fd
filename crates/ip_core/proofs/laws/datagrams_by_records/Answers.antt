use Rattle.ip_core.proofs.Records.{records-datagrams, records-pools}
use Rattle.ip_core.proofs.laws.datagrams_by_records.Goals as goal

pub returns-clause-datagrams : goal.returns-clause-datagrams
returns-clause-datagrams c = records-datagrams

pub returns-clause-pools : goal.returns-clause-pools
returns-clause-pools c = records-pools
