mod DrawnWhole
