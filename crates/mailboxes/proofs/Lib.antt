mod Spills
