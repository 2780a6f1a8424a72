use Rattle.shm_consumer.proofs.giver.Giver.step.Given as goal

abbrev pub ghosts-store_invalid : goal.ghosts-store_invalid
ghosts-store_invalid a = record { sample = a.sample }
