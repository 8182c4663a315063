mod FaultLemmas
