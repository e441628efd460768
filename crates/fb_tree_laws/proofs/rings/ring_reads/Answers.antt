use Rattle.fb_laws.proofs.RingReads.{beside_by_number, names_at, ring_at, round_length, round_read, second_by_number, second_count, second_read, way_by_number}
use Rattle.fb_tree_laws.proofs.rings.ring_reads.Goals as goal

pub returns-clause-round : goal.returns-clause-round
returns-clause-round c = round_read

pub returns-clause-second : goal.returns-clause-second
returns-clause-second c = second_read

pub returns-clause-count : goal.returns-clause-count
returns-clause-count c = second_count

pub returns-clause-numbers : goal.returns-clause-numbers
returns-clause-numbers c = second_by_number

pub returns-clause-way : goal.returns-clause-way
returns-clause-way c = way_by_number

pub returns-clause-length : goal.returns-clause-length
returns-clause-length c = round_length

pub returns-clause-beside : goal.returns-clause-beside
returns-clause-beside c = beside_by_number

pub returns-clause-sets : goal.returns-clause-sets
returns-clause-sets c = ring_at

pub returns-clause-names : goal.returns-clause-names
returns-clause-names c = names_at
