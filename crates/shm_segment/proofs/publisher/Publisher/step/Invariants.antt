use Rattle.shm_segment.proofs.publisher.Publisher.step.Given as goal

abbrev pub ghosts-store_invalid : goal.ghosts-store_invalid
ghosts-store_invalid a = record { sample = a.sample }
