use Rattle.fb_files.proofs.Inputs.{asks_prefix_kept, asks_prefix_one}
use Rattle.fb_files.proofs.named.read_named.Goals as goal

pub returns-then-is_err-clause-asks : goal.returns-then-is_err-clause-asks
returns-then-is_err-clause-asks g c = asks_prefix_one _ _ _ (rw c.in-Ok.ensures.ok at c.open_file.ensures.asks)

pub returns-in-Ok-read_whole-clause-asks : goal.returns-in-Ok-read_whole-clause-asks
returns-in-Ok-read_whole-clause-asks g c = asks_prefix_kept _ _ _ _ (rw c.in-Ok.ensures.ok at c.open_file.ensures.asks) c.read_whole.ensures.asks

pub returns-in-Err-TooLong-clause-asks : goal.returns-in-Err-TooLong-clause-asks
returns-in-Err-TooLong-clause-asks g c = asks_prefix_kept _ _ _ _ (rw c.in-Ok.ensures.ok at c.open_file.ensures.asks) c.read_whole.ensures.asks

pub returns-in-Err-ReadFault-clause-asks : goal.returns-in-Err-ReadFault-clause-asks
returns-in-Err-ReadFault-clause-asks g c = asks_prefix_kept _ _ _ _ (rw c.in-Ok.ensures.ok at c.open_file.ensures.asks) c.read_whole.ensures.asks

pub returns-in-Err-NoMemory-clause-asks : goal.returns-in-Err-NoMemory-clause-asks
returns-in-Err-NoMemory-clause-asks g c = asks_prefix_kept _ _ _ _ (rw c.in-Ok.ensures.ok at c.open_file.ensures.asks) c.read_whole.ensures.asks
